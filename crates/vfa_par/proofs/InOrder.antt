-- The results of pieces are those of the whole list.
use Rattle.std.proofs.Common.{◌≡◌, ℕ, suc, ◌+◌, ◌*◌, ⊎_elim, ◌/◌, ◌%◌, min, ◌<◌, ◌≤◌, List, [], ◌∷◌, ◌++◌, map, length, get_or, take, drop, Result, Ok, Err, IfOk, OnOk, refl, sym, ap, subst, arith, ◌∙◌}
use Rattle.std.specs.Fork.{slice_chunk}
use Rattle.std.specs.List.{AllZip, AllByRecursion, flat_map}
use Rattle.std.specs.declared.alloc.AllocError.{AllocError}
use Rattle.std.specs.declared.alloc.Global.{Global}
use Rattle.std.specs.declared.vec.Vec.{Vec}
use Rattle.std.proofs.lemmas.List.{take_more, take-append-drop, drop-drop, append_assoc, append-nil, length-drop}
use native.Mathlib.Nat.{add-mul, one-mul, suc-mul, zero-mul}
use Rattle.std.proofs.lemmas.Bool.{cases_lt}
use Rattle.std.proofs.lemmas.Nat.{div-add-mod', mod_below}
use Rattle.vfa_par.specs.Pieces.{results_of, IsDone}

abbrev Piece : Type 0 → Type 0
Piece T = Result (Vec T Global) AllocError

module _ {A B : Type 0} (R : A → B → Type 0) where
  pub related_push : (xs : List A) (ys : List B) (x : A) (y : B) → AllZip R xs ys → R x y → AllZip R (xs ++ x ∷ []) (ys ++ y ∷ [])
  related_push [] [] x y h r = (r, tt)
  related_push [] (b ∷ ys) x y h r = absurd h
  related_push (a ∷ xs) [] x y h r = absurd h
  related_push (a ∷ xs) (b ∷ ys) x y h r = (h.0, related_push xs ys x y h.1 r)

  pub related_append : (xs : List A) (ys : List B) (us : List A) (vs : List B) → AllZip R xs ys → AllZip R us vs → AllZip R (xs ++ us) (ys ++ vs)
  related_append [] [] us vs h k = k
  related_append [] (b ∷ ys) us vs h k = absurd h
  related_append (a ∷ xs) [] us vs h k = absurd h
  related_append (a ∷ xs) (b ∷ ys) us vs h k = (h.0, related_append xs ys us vs h.1 k)

  -- one input more
  pub results_more : (xs : List A) (ys zs : List B) (i : ℕ) (x : A) (y : B) → i < length xs → x ≡ get_or xs i x → zs ≡ ys ++ y ∷ [] → AllZip R (take i xs) ys → R x y → AllZip R (take (i + 1) xs) zs
  results_more xs ys zs i x y lt is pushed h r =
      let more : take (i + 1) xs ≡ take i xs ++ x ∷ [] = take_more xs i x lt ∙ ap (λ z. take i xs ++ z ∷ []) (sym is) in
      subst (λ l. AllZip R l zs) (sym more) (subst (AllZip R (take i xs ++ x ∷ [])) (sym pushed) (related_push (take i xs) ys x y h r))

  -- where each input has no other result than that of f
  pub results_mapped : (f : A → B) → ((x : A) (y : B) → R x y → y ≡ f x) → (xs : List A) (ys : List B) → AllZip R xs ys → ys ≡ map f xs
  results_mapped f one [] [] h = refl
  results_mapped f one [] (y ∷ ys) h = absurd h
  results_mapped f one (x ∷ xs) [] h = absurd h
  results_mapped f one (x ∷ xs) (y ∷ ys) h = λ i. one x y h.0 i ∷ results_mapped f one xs ys h.1 i

module _ {T : Type 0} where
  pub joined_more : (pieces : List (Piece T)) (piece : Piece T) → flat_map results_of (pieces ++ piece ∷ []) ≡ flat_map results_of pieces ++ results_of piece
  joined_more [] piece = append-nil (results_of piece)
  joined_more (p ∷ ps) piece = ap (λ zs. results_of p ++ zs) (joined_more ps piece) ∙ sym (append_assoc (results_of p) (flat_map results_of ps) (results_of piece))

  pub done_more : (pieces : List (Piece T)) (piece : Piece T) → AllByRecursion IsDone pieces → IsDone piece → AllByRecursion IsDone (pieces ++ piece ∷ [])
  done_more [] piece h d = (d, tt)
  done_more (p ∷ ps) piece h d = (h.0, done_more ps piece h.1 d)

  -- one piece more
  pub joined_next : (pieces : List (Piece T)) (piece : Piece T) (results : Vec T Global) (before after : List T) → piece ≡ Ok results → after ≡ before ++ results.items → (before ≡ flat_map results_of pieces) × AllByRecursion IsDone pieces → (after ≡ flat_map results_of (pieces ++ piece ∷ [])) × AllByRecursion IsDone (pieces ++ piece ∷ [])
  joined_next pieces piece results before after is appended h =
      let of_piece : results_of piece ≡ results.items = ap results_of is in (
        appended ∙ ap (λ l. l ++ results.items) h.0 ∙ ap (λ l. flat_map results_of pieces ++ l) (sym of_piece) ∙ sym (joined_more pieces piece),
        done_more pieces piece h.1 (subst IsDone (sym is) tt),
      )

-- as many pieces of this size as there are hold all inputs
hold_all : (count len size : ℕ) → 0 < size → count ≡ len / size + min 1 (len % size) → len ≤ count * size
hold_all count len size some is =
    let q = len / size in let r = len % size in
    let parts : q * size + r ≡ len = div-add-mod' len size in
    let short : r < size = mod_below len size some in
    ⊎_elim
    (λ h. let e : count ≡ q + 1 = omega arith in let w = ap (λ n. n * size) e ∙ add-mul q 1 size in let o = one-mul size in omega arith)
    (λ h. let e : count ≡ q = omega arith in let w = ap (λ n. n * size) e in omega arith)
    (cases_lt 0 r)

module _ {A T : Type 0} (R : A → T → Type 0) (size : ℕ) where
  -- the results of a piece are those of some inputs, in their order
  abbrev pub GaveResults : List A → Piece T → Type 0
  GaveResults inputs piece = IfOk piece (λ all. AllZip R inputs all.items)

  of_done : (inputs : List A) (piece : Piece T) → IsDone piece → GaveResults inputs piece → AllZip R inputs (results_of piece)
  of_done inputs (Ok all) d h = h
  of_done inputs (Err e) d h = absurd d

  -- the pieces hold all inputs, and each gave the results of its own
  pub results_joined : (xs : List A) (pieces : List (Piece T)) → length xs ≤ length pieces * size → ((n : ℕ) (d : Piece T) → n < length pieces → GaveResults (slice_chunk xs size n) (get_or pieces n d)) → AllByRecursion IsDone pieces → AllZip R xs (flat_map results_of pieces)
  results_joined [] [] le each done = tt
  results_joined (x ∷ xs) [] le each done = let no : ⊥ = omega arith in absurd no
  results_joined xs (p ∷ ps) le each done =
      let first : AllZip R (take size xs) (results_of p) = of_done (take size xs) p done.0 (subst (λ l. GaveResults (take size l) p) (ap (λ n. drop n xs) (zero-mul size)) (each 0 p (omega arith))) in
      let long = length-drop size xs in
      let next : (n : ℕ) (d : Piece T) → n < length ps → GaveResults (slice_chunk (drop size xs) size n) (get_or ps n d) =
      λ n d lt. subst (λ l. GaveResults (take size l) (get_or ps n d)) (ap (λ m. drop m xs) (omega (arith, suc-mul n size)) ∙ sym (drop-drop (n * size) size xs)) (each (suc n) d (omega arith)) in
      let rest : AllZip R (drop size xs) (flat_map results_of ps) = results_joined (drop size xs) ps (omega (arith, suc-mul (length ps) size)) next done.1 in
      subst (λ l. AllZip R l (results_of p ++ flat_map results_of ps)) (take-append-drop size xs) (related_append R (take size xs) (results_of p) (drop size xs) (flat_map results_of ps) first rest)

  pub results_of_all : (xs : List A) (pieces : List (Piece T)) (all : Piece T) → 0 < size → length pieces ≡ length xs / size + min 1 (length xs % size) → ((n : ℕ) (d : Piece T) → n < length pieces → GaveResults (slice_chunk xs size n) (get_or pieces n d)) → OnOk all (AllByRecursion IsDone pieces) → IfOk all (λ v. v.items ≡ flat_map results_of pieces) → IfOk all (λ v. AllZip R xs v.items)
  results_of_all xs pieces (Err e) some long each done joined = tt
  results_of_all xs pieces (Ok v) some long each done joined =
      subst (AllZip R xs) (sym joined) (results_joined xs pieces (hold_all (length pieces) (length xs) size some long) each done)

  pub mapped_all : (f : A → T) → ((x : A) (y : T) → R x y → y ≡ f x) → (xs : List A) (all : Piece T) → IfOk all (λ v. AllZip R xs v.items) → IfOk all (λ v. v.items ≡ map f xs)
  mapped_all f one xs (Err e) h = tt
  mapped_all f one xs (Ok v) h = results_mapped R f one xs v.items h
