-- Phis with the entries of the edges that are left.
use Rattle.std.proofs.Common.{◌≡◌, ◌<◌, ◌≤◌, ◌+◌, ◌-◌, ℕ, zero, suc, Bool, true, false, nat_eq, not, if◌then◌else◌, Option, Some, None, is_some, List, [], ◌∷◌, ◌++◌, All, Bor, map, flat_map, take, drop, set, length, get_or, refl, sym, ap, ◌∙◌, subst, add-one, append_assoc, length-append, arith}
use Rattle.std.specs.Prelude.{slice_get, slice_index_or}
use Rattle.std.specs.List.{AllByRecursion}
use Rattle.std.specs.Option.{ForSome, option_map}
use Rattle.std.proofs.lemmas.Bool.{eqb-true, eqb-false}
use Rattle.std.proofs.lemmas.List.{append-nil, drop_all, drop_more, get_or-set_other, get_or-set_same}
use Rattle.std.proofs.lemmas.List.Elements.{All-from_recursion, All-weaker, recursion_from_All}
use Rattle.std.proofs.lemmas.Option.{same_Some, slice_get-get_or, slice_get-map, slice_get_within}
use Rattle.vfa_ir.specs.declared.operations.BlockId.{BlockId}
use Rattle.vfa_ir.specs.declared.operations.Operand.{Operand}
use Rattle.vfa_ir.specs.declared.functions.Block.{Block}
use Rattle.vfa_ir.specs.declared.functions.Function.{Function}
use Rattle.vfa_ir.specs.declared.functions.Phi.{Phi}
use Rattle.vfa_ir.specs.PhisFit.{targets}
use Rattle.vfa_ir.specs.Printable.{IsPrintable, IsBlock, IsOperand, PrintableBlock, PrintablePhi}
use Rattle.vfa_ir.specs.Walks.{successors}
use Rattle.vfa_mean.specs.Kept.{is_marked}
use Rattle.vfa_mean.specs.Moments.{Into}
use Rattle.vfa_cond.specs.Conditions.{AreFacts, IsNumberOperand}
use Rattle.vfa_cond.specs.States.{known, Stored}
use Rattle.vfa_walk.specs.Kept.{IsStateOf}
use Rattle.vfa_walk.specs.Ready.{IsReady, IsReadyBlock, IsReadyPhi}
use Rattle.vfa_walk.specs.Passes.{followed}
use Rattle.vfa_walk.specs.Stepping.{before_line}
use Rattle.vfa_walk.proofs.TruthTypes.{each_of}
use Rattle.vfa_xfer.specs.Transfers.{fact_answers}
use Rattle.vfa_rewrite.specs.declared.found.BlockFindings.{BlockFindings}
use Rattle.vfa_xfer.specs.declared.any_fact.AnyFact.{AnyFact}
use Rattle.vfa_xfer.specs.AnyFacts.{fact_type, IsAnyFact}
use Rattle.vfa_rewrite.specs.ByFacts.{FactState, FactTable, decision_in, fact_state, findings_of}
use Rattle.vfa_rewrite.specs.Findings.{Findings}
use Rattle.vfa_rewrite.specs.Found.{AreKeptOf}
use Rattle.vfa_rewrite.specs.Making.{first_marks, put_at}
use Rattle.vfa_rewrite.specs.Putting.{IsNamed, IsReadyToPut, entries_of, entry_put, leads_to, put_by}
use Rattle.vfa_rewrite.specs.Rewritten.{edge_to, edges_from, edges_of, entries_left, if_counted, if_reached, kept_phis, one_fewer, phi_left, phis_if_met, phis_left}
use Rattle.vfa_rewrite.proofs.OperandsPut.{number_named, put_is}
use Rattle.vfa_rewrite.proofs.OutEdges.{successors_are}

-- ---- counting edges

edge_more : (x y : Bool) (n r : ℕ) → edge_to x y n + r ≡ n + edge_to x y r
edge_more true true n r = omega arith
edge_more true false n r = refl
edge_more false y n r = refl

pub edge_most : (x y : Bool) (n : ℕ) → edge_to x y n ≤ n + 1
edge_most true true n = omega arith
edge_most true false n = omega arith
edge_most false y n = omega arith

leads_is : (f : Function) (from to k : ℕ) (block : Block) (t : BlockId) → slice_get f.blocks from ≡ Some block → slice_get (targets block.term) k ≡ Some t →
    leads_to f from k to ≡ nat_eq t.0 to
leads_is f from to k block t there stands =
    let here : slice_get (successors f from) k ≡ Some t.0 =
    ap (λ l. slice_get l k) (successors_are f from block there) ∙ (slice_get-map (λ (x : BlockId). x.0) (targets block.term) k ∙ ap (option_map (λ (x : BlockId). x.0)) stands) in
    ap (λ o. elim o [ None ↦ false | Some target ↦ nat_eq target to ]) here

pub count_more : (f : Function) (from to k count : ℕ) (block : Block) (left : ℕ → Bool) (is_left leads : Bool) → slice_get f.blocks from ≡ Some block → k < length (targets block.term) →
    is_left ≡ left k → leads ≡ leads_to f from k to → (all : ℕ) → count + edges_from left to k (drop k (targets block.term)) ≡ all →
    edge_to is_left leads count + edges_from left to (k + 1) (drop (k + 1) (targets block.term)) ≡ all
count_more f from to k count block left is_left leads there less l d all h =
    let d0 : BlockId = record { 0 = 0 } in
    let ts = targets block.term in
    let t = get_or ts k d0 in
    let rest = edges_from left to (k + 1) (drop (k + 1) ts) in
    let stands : slice_get ts k ≡ Some t = slice_get-get_or ts k d0 less in
    let now : edges_from left to k (drop k ts) ≡ edge_to is_left leads rest =
    ap (edges_from left to k) (drop_more ts k d0 less)
    ∙ (ap (λ n. edge_to (left k) (nat_eq t.0 to) (edges_from left to n (drop (k + 1) ts))) (sym (add-one k))
    ∙ (λ i. edge_to (sym l i) (sym (d ∙ leads_is f from to k block t there stands) i) rest)) in
    edge_more is_left leads count rest ∙ (ap (λ n. count + n) (sym now) ∙ h)

pub count_all : (left : ℕ → Bool) (to k count : ℕ) (ts : List BlockId) → length ts ≤ k → (all : ℕ) → count + edges_from left to k (drop k ts) ≡ all → count ≡ all
count_all left to k count ts past all h =
    let none : edges_from left to k (drop k ts) ≡ 0 = ap (edges_from left to k) (drop_all k ts past) in
    omega (arith, none, h)

module _ (f : Function) (found : Findings) (kept : List BlockFindings) (are : AreKeptOf f found kept) (reached : List Bool) (from to : ℕ) where
  abbrev edges_are : Bool → Option Block → ℕ
  edges_are r o = if_reached r (elim o [ None ↦ 0 | Some block ↦ edges_from (found.left from) to 0 (targets block.term) ])

  pub no_edges_gone : is_marked reached from ≡ false → 0 ≡ edges_of f (first_marks f found (is_marked reached)) to from
  no_edges_gone r = ap (λ t. edges_are t (slice_get f.blocks from)) (sym r)

  pub no_edges_out : slice_get f.blocks from ≡ None → 0 ≡ edges_of f (first_marks f found (is_marked reached)) to from
  no_edges_out none = by (is_marked reached from) ∙ ap (edges_are (is_marked reached from)) (sym none)
    where
      by : (r : Bool) → 0 ≡ if_reached r 0
      by true = refl
      by false = refl

  pub edges_counted : is_marked reached from ≡ true → (block : Block) → slice_get f.blocks from ≡ Some block → (findings : BlockFindings) → slice_get kept from ≡ Some findings →
      edges_from (λ k. slice_index_or findings.left.items k false) to 0 (targets block.term) ≡ edges_of f (first_marks f found (is_marked reached)) to from
  edges_counted r block there findings stands =
      let lefts : (λ k. slice_index_or findings.left.items k false) ≡ found.left from = λ i k. (are.each from findings stands).left k i in
      ap (λ l. edges_from l to 0 (targets block.term)) lefts
      ∙ (λ i. edges_are (sym r i) (sym there i))

-- ---- counts of each block

pub set_index : (l : List ℕ) (p v q : ℕ) → p < length l → slice_index_or (set l p v) q 0 ≡ (if nat_eq q p then v else slice_index_or l q 0)
set_index l p v q less = by (nat_eq q p) refl
  where
    by : (t : Bool) → nat_eq q p ≡ t → slice_index_or (set l p v) q 0 ≡ (if t then v else slice_index_or l q 0)
    by true same = ap (λ n. slice_index_or (set l p v) n 0) (eqb-true q p same) ∙ get_or-set_same l p v 0 less
    by false apart = get_or-set_other l p q v 0 (eqb-false q p apart)

abbrev pub AreCounted : (ℕ → ℕ) → List (Operand × BlockId) → ℕ → List ℕ → Type 0
AreCounted edges entries k left = (j : ℕ) (e : Operand × BlockId) → j < k → slice_get entries j ≡ Some e → slice_index_or left e.1.0 0 ≡ edges e.1.0

pub one_counted : (edges : ℕ → ℕ) (entries : List (Operand × BlockId)) (k : ℕ) (left new : List ℕ) (d : Operand × BlockId) {v : ℕ} → new ≡ set left (get_or entries k d).1.0 v → AreCounted edges entries k left → k < length entries →
    (get_or entries k d).1.0 < length left → v ≡ edges (get_or entries k d).1.0 → AreCounted edges entries (k + 1) new
one_counted edges entries k left new d {v} put so_far less within is j e below h =
    let p = (get_or entries k d).1.0 in
    ap (λ l. slice_index_or l e.1.0 0) put ∙ (set_index left p v e.1.0 within ∙ by (nat_eq e.1.0 p) refl)
  where
    before : (nat_eq e.1.0 (get_or entries k d).1.0 ≡ false) → j < k
    before apart =
        let other : j ≡ k → ⊥ = λ same.
        eqb-false e.1.0 (get_or entries k d).1.0 apart
        (ap (λ (x : Operand × BlockId). x.1.0) (same_Some e (get_or entries k d) (sym h ∙ (ap (slice_get entries) same ∙ slice_get-get_or entries k d less)))) in
        omega (arith, below, other)

    by : (t : Bool) → nat_eq e.1.0 (get_or entries k d).1.0 ≡ t → (if t then v else slice_index_or left e.1.0 0) ≡ edges e.1.0
    by true same = is ∙ ap edges (sym (eqb-true e.1.0 (get_or entries k d).1.0 same))
    by false apart = so_far j e (before apart) h

pub within_now : (es : List (Operand × BlockId)) (n m : ℕ) → All (λ (e : Operand × BlockId). e.1.0 < n) es → m ≡ n → All (λ (e : Operand × BlockId). e.1.0 < m) es
within_now es n m all same = subst (λ k. All (λ (e : Operand × BlockId). e.1.0 < k) es) (sym same) all

pub all_counted : (edges : ℕ → ℕ) (entries : List (Operand × BlockId)) (k : ℕ) (left : List ℕ) → AreCounted edges entries k left → length entries ≤ k →
    AllByRecursion (λ (e : Operand × BlockId). slice_index_or left e.1.0 0 ≡ edges e.1.0) entries
all_counted edges entries k left so_far all = by entries (λ j e h. so_far j e (let inside = slice_get_within entries j e h in omega (arith, inside, all)) h)
  where
    by : (es : List (Operand × BlockId)) → ((j : ℕ) (e : Operand × BlockId) → slice_get es j ≡ Some e → slice_index_or left e.1.0 0 ≡ edges e.1.0) →
        AllByRecursion (λ (e : Operand × BlockId). slice_index_or left e.1.0 0 ≡ edges e.1.0) es
    by [] h = tt
    by (e ∷ es) h = (h 0 e refl, by es (λ j x k. h (suc j) x k))

-- ---- entries kept by their counts

abbrev AgreeOn : (ℕ → ℕ) → (ℕ → ℕ) → List (Operand × BlockId) → Type 0
AgreeOn count count' es = AllByRecursion (λ (e : Operand × BlockId). count e.1.0 ≡ count' e.1.0) es

fewer_agree : (count count' : ℕ → ℕ) (p : ℕ) (es : List (Operand × BlockId)) → AgreeOn count count' es → AgreeOn (one_fewer count p) (one_fewer count' p) es
fewer_agree count count' p [] h = tt
fewer_agree count count' p (e ∷ es) h = (ap (λ n. if nat_eq e.1.0 p then n - 1 else n) h.0, fewer_agree count count' p es h.1)

pub entries_agree : (es : List (Operand × BlockId)) (put : List Operand) (count count' : ℕ → ℕ) → AgreeOn count count' es → entries_of es put count ≡ entries_of es put count'
entries_agree [] put count count' h = refl
entries_agree (e ∷ es) [] count count' h = refl
entries_agree (e ∷ es) (a ∷ put) count count' h =
    λ i. if_counted (h.0 i) ((a, e.1) ∷ entries_agree es put (one_fewer count e.1.0) (one_fewer count' e.1.0) (fewer_agree count count' e.1.0 es h.1) i) (entries_agree es put count count' h.1 i)

pub entries_are_left : (f : Function) (found : Findings) (reached : ℕ → Bool) (b : ℕ) (es : List (Operand × BlockId)) (count : ℕ → ℕ) →
    entries_of es (map (entry_put f found b) es) count ≡ entries_left (first_marks f found reached) b es count
entries_are_left f found reached b [] count = refl
entries_are_left f found reached b (e ∷ es) count =
    λ i. if_counted (count e.1.0) ((put_at f found (Into (Some e.1.0) b) e.0, e.1) ∷ entries_are_left f found reached b es (one_fewer count e.1.0) i) (entries_are_left f found reached b es count i)

-- one entry more
pub entries_more : (es : List (Operand × BlockId)) (put : List Operand) (k : ℕ) (d : Operand × BlockId) (c : Operand) → k < length es → k < length put → (count count' : ℕ → ℕ) →
    ((p : ℕ) → count' p ≡ one_fewer count (get_or es k d).1.0 p) →
    entries_of (drop k es) (drop k put) count
    ≡ if_counted (count (get_or es k d).1.0) ((get_or put k c, (get_or es k d).1) ∷ entries_of (drop (k + 1) es) (drop (k + 1) put) count') (entries_of (drop (k + 1) es) (drop (k + 1) put) count)
entries_more es put k d c less inside count count' fewer =
    let e = get_or es k d in
    let count_is : one_fewer count e.1.0 ≡ count' = λ i p. sym (fewer p) i in
    (λ i. entries_of (drop_more es k d less i) (drop_more put k c inside i) count)
    ∙ ap (λ n. if_counted (count e.1.0) ((get_or put k c, e.1) ∷ entries_of (drop (k + 1) es) (drop (k + 1) put) n) (entries_of (drop (k + 1) es) (drop (k + 1) put) count)) count_is

-- where there is none left of a block, one fewer is the same
pub none_fewer : (count : ℕ → ℕ) (p : ℕ) → count p ≡ 0 → one_fewer count p ≡ count
none_fewer count p none = λ i q. here q i
  where
    here : (q : ℕ) → one_fewer count p q ≡ count q
    here q = by (nat_eq q p) refl
      where
        by : (t : Bool) → nat_eq q p ≡ t → (if t then count q - 1 else count q) ≡ count q
        by true same = let at : count q ≡ 0 = ap count (eqb-true q p same) ∙ none in omega (arith, at)
        by false apart = refl

-- ---- phis

abbrev pub AllEntries : List Phi → List (Operand × BlockId)
AllEntries phis = flat_map (λ (p : Phi). p.entries) phis

pub entries_named : (f : Function) (b : ℕ) (block : Block) → IsReady f → slice_get f.blocks b ≡ Some block → All (λ (e : Operand × BlockId). IsNamed f e.0) (AllEntries block.phis)
entries_named f b block ready there =
    All-from_recursion (λ (e : Operand × BlockId). IsNamed f e.0) (AllEntries block.phis) (by block.phis (λ k p h. each_of (IsReadyPhi f) block.phis k p (each_of (IsReadyBlock f) f.blocks b block ready.blocks there).phis h))
  where
    both : (xs ys : List (Operand × BlockId)) → AllByRecursion (λ (e : Operand × BlockId). IsNamed f e.0) xs → AllByRecursion (λ (e : Operand × BlockId). IsNamed f e.0) ys →
        AllByRecursion (λ (e : Operand × BlockId). IsNamed f e.0) (xs ++ ys)
    both [] ys h k = k
    both (x ∷ xs) ys h k = (h.0, both xs ys h.1 k)

    own : (w : ℕ) (es : List (Operand × BlockId)) → ((j : ℕ) (e : Operand × BlockId) → slice_get es j ≡ Some e → IsNumberOperand f w e.0) → AllByRecursion (λ (e : Operand × BlockId). IsNamed f e.0) es
    own w [] h = tt
    own w (e ∷ es) h = (number_named f w e.0 (h 0 e refl), own w es (λ j x k. h (suc j) x k))

    by : (phis : List Phi) → ((k : ℕ) (p : Phi) → slice_get phis k ≡ Some p → IsReadyPhi f p) → AllByRecursion (λ (e : Operand × BlockId). IsNamed f e.0) (AllEntries phis)
    by [] h = tt
    by (p ∷ phis) h =
        both p.entries (AllEntries phis)
        (own p.width p.entries (λ j e k. each_of (λ (x : Operand × BlockId). IsNumberOperand f p.width x.0) p.entries j e (h 0 p refl).entries k))
        (by phis (λ k q s. h (suc k) q s))

pub entries_within : (f : Function) (b : ℕ) (block : Block) (n : ℕ) → IsPrintable f → slice_get f.blocks b ≡ Some block → n ≡ length f.blocks →
    All (λ (p : Phi). All (λ (e : Operand × BlockId). e.1.0 < n) p.entries) block.phis
entries_within f b block n printable there same =
    subst (λ m. All (λ (p : Phi). All (λ (e : Operand × BlockId). e.1.0 < m) p.entries) block.phis) (sym same)
    (All-weaker (PrintablePhi f) (λ (p : Phi). All (λ (e : Operand × BlockId). e.1.0 < length f.blocks) p.entries)
    (λ p of. All-weaker (λ (e : Operand × BlockId). IsOperand f p.width e.0 × IsBlock f e.1) (λ (e : Operand × BlockId). e.1.0 < length f.blocks) (λ e both. both.1) p.entries of.entries)
    block.phis (each_of (PrintableBlock f) f.blocks b block printable.blocks there).phis)

-- ---- one phi more, with its own part of what is put

take_front : {A : Type 0} (xs ys : List A) → take (length xs) (xs ++ ys) ≡ xs
take_front [] ys = refl
take_front (x ∷ xs) ys = ap (λ l. x ∷ l) (take_front xs ys)

drop_front : {A : Type 0} (xs ys : List A) → drop (length xs) (xs ++ ys) ≡ ys
drop_front [] ys = refl
drop_front (x ∷ xs) ys = drop_front xs ys

drop_none : {A : Type 0} (n : ℕ) → ◌≡◌ {A = List A} (drop n []) []
drop_none zero = refl
drop_none (suc n) = refl

drop_again : {A : Type 0} (xs : List A) (m n k : ℕ) → k ≡ m + n → drop k xs ≡ drop n (drop m xs)
drop_again xs zero n k e = let same : k ≡ n = omega (arith, e) in ap (λ j. drop j xs) same
drop_again [] (suc m) n k e = drop_none k ∙ sym (drop_none n)
drop_again (x ∷ xs) (suc m) n zero e = absurd (omega (arith, e))
drop_again (x ∷ xs) (suc m) n (suc k) e = drop_again xs m n k (omega (arith, e))

mapped_both : {A B : Type 0} (g : A → B) (xs ys : List A) → map g (xs ++ ys) ≡ map g xs ++ map g ys
mapped_both g [] ys = refl
mapped_both g (x ∷ xs) ys = ap (λ l. g x ∷ l) (mapped_both g xs ys)

mapped_length : {A B : Type 0} (g : A → B) (xs : List A) → length (map g xs) ≡ length xs
mapped_length g [] = refl
mapped_length g (x ∷ xs) = ap suc (mapped_length g xs)

module _ (phis : List Phi) (k at : ℕ) (d : Phi) (less : k < length phis) (put : List Operand) where
  abbrev phi : Phi
  phi = get_or phis k d

  rest_of : AllEntries (drop k phis) ≡ phi.entries ++ AllEntries (drop (k + 1) phis)
  rest_of = ap AllEntries (drop_more phis k d less)

  -- there is as much left to put
  pub put_left : at + length (AllEntries (drop k phis)) ≡ length put → at + length phi.entries + length (AllEntries (drop (k + 1) phis)) ≡ length put
  put_left so_far =
      let lengths = ap length rest_of ∙ length-append phi.entries (AllEntries (drop (k + 1) phis)) in
      omega (arith, so_far, lengths)

  module _ (g : Operand × BlockId → Operand) (is : drop at put ≡ map g (AllEntries (drop k phis))) where
    parts : drop at put ≡ map g phi.entries ++ map g (AllEntries (drop (k + 1) phis))
    parts = is ∙ (ap (map g) rest_of ∙ mapped_both g phi.entries (AllEntries (drop (k + 1) phis)))

    pub own_put : take (length phi.entries) (drop at put) ≡ map g phi.entries
    own_put =
        ap (take (length phi.entries)) parts
        ∙ (ap (λ n. take n (map g phi.entries ++ map g (AllEntries (drop (k + 1) phis)))) (sym (mapped_length g phi.entries))
        ∙ take_front (map g phi.entries) (map g (AllEntries (drop (k + 1) phis))))

    pub rest_put : drop (at + length phi.entries) put ≡ map g (AllEntries (drop (k + 1) phis))
    rest_put =
        drop_again put at (length phi.entries) _ refl
        ∙ (ap (drop (length phi.entries)) parts
        ∙ (ap (λ n. drop n (map g phi.entries ++ map g (AllEntries (drop (k + 1) phis)))) (sym (mapped_length g phi.entries))
        ∙ drop_front (map g phi.entries) (map g (AllEntries (drop (k + 1) phis)))))

    -- what lies between the two places
    pub own_part : (n : ℕ) → n ≡ length phi.entries → take (at + n - at) (drop at put) ≡ map g phi.entries
    own_part n e = let long : at + n - at ≡ length phi.entries = omega (arith, e) in ap (λ m. take m (drop at put)) long ∙ own_put

pub phis_more : (f : Function) (found : Findings) (reached : ℕ → Bool) (b : ℕ) (phis : List Phi) (k : ℕ) (d : Phi) → k < length phis → (now new all : List Phi) (made : Phi) →
    made ≡ phi_left f (first_marks f found reached) b (get_or phis k d) → new ≡ now ++ (made ∷ []) →
    now ++ kept_phis f (first_marks f found reached) b (drop k phis) ≡ all → new ++ kept_phis f (first_marks f found reached) b (drop (k + 1) phis) ≡ all
phis_more f found reached b phis k d less now new all made is put so_far =
    let rest = kept_phis f (first_marks f found reached) b (drop (k + 1) phis) in
    ap (λ l. l ++ rest) put ∙ (append_assoc now (made ∷ []) rest
    ∙ (ap (λ p. now ++ (p ∷ rest)) is ∙ (ap (λ l. now ++ kept_phis f (first_marks f found reached) b l) (sym (drop_more phis k d less)) ∙ so_far)))

pub phis_done : (f : Function) (found : Findings) (reached : ℕ → Bool) (b : ℕ) (phis : List Phi) (k : ℕ) (now all : List Phi) → length phis ≤ k →
    now ++ kept_phis f (first_marks f found reached) b (drop k phis) ≡ all → now ≡ all
phis_done f found reached b phis k now all past h =
    sym (append-nil now) ∙ (ap (λ l. now ++ kept_phis f (first_marks f found reached) b l) (sym (drop_all k phis past)) ∙ h)

-- ---- one entry more or less

counted_some : (n : ℕ) (kept gone : List (Operand × BlockId)) → not (nat_eq n 0) ≡ true → if_counted n kept gone ≡ kept
counted_some zero kept gone h = absurd (cc)
counted_some (suc n) kept gone h = refl

not_false : (t : Bool) → not t ≡ false → t ≡ true
not_false true h = refl
not_false false h = absurd (cc)

counted_none : (n : ℕ) → not (nat_eq n 0) ≡ false → n ≡ 0
counted_none n h = eqb-true n 0 (not_false (nat_eq n 0) h)

module _ (es : List (Operand × BlockId)) (put : List Operand) (k : ℕ) (d : Operand × BlockId) (a : Operand) (less : k < length es) (inside : k < length put) (count count' : ℕ → ℕ)
    (fewer : (p : ℕ) → count' p ≡ one_fewer count (get_or es k d).1.0 p) (now all : List (Operand × BlockId)) (so_far : now ++ entries_of (drop k es) (drop k put) count ≡ all) where
  abbrev rest : List (Operand × BlockId)
  rest = entries_of (drop (k + 1) es) (drop (k + 1) put) count'

  pub entry_kept : not (nat_eq (count (get_or es k d).1.0) 0) ≡ true → (new : List (Operand × BlockId)) → new ≡ now ++ ((get_or put k a, (get_or es k d).1) ∷ []) → new ++ rest ≡ all
  entry_kept some new is =
      let here = entries_more es put k d a less inside count count' fewer
      ∙ counted_some (count (get_or es k d).1.0) ((get_or put k a, (get_or es k d).1) ∷ rest) (entries_of (drop (k + 1) es) (drop (k + 1) put) count) some in
      ap (λ l. l ++ rest) is ∙ (append_assoc now ((get_or put k a, (get_or es k d).1) ∷ []) rest ∙ (ap (λ l. now ++ l) (sym here) ∙ so_far))

  pub entry_gone : not (nat_eq (count (get_or es k d).1.0) 0) ≡ false → now ++ rest ≡ all
  entry_gone none =
      let zero_is = counted_none (count (get_or es k d).1.0) none in
      let same : count' ≡ count = (λ i p. fewer p i) ∙ none_fewer count (get_or es k d).1.0 zero_is in
      let here = entries_more es put k d a less inside count count' fewer
      ∙ ap (λ n. if_counted n ((get_or put k a, (get_or es k d).1) ∷ rest) (entries_of (drop (k + 1) es) (drop (k + 1) put) count)) zero_is in
      ap (λ n. now ++ entries_of (drop (k + 1) es) (drop (k + 1) put) n) same ∙ (ap (λ l. now ++ l) (sym here) ∙ so_far)

-- the entries of a phi
pub phi_entries : (f : Function) (found : Findings) (reached : ℕ → Bool) (b : ℕ) (es : List (Operand × BlockId)) (put : List Operand) (count edges : ℕ → ℕ) →
    put ≡ map (entry_put f found b) es → All (λ (e : Operand × BlockId). count e.1.0 ≡ edges e.1.0) es → entries_of es put count ≡ entries_left (first_marks f found reached) b es edges
phi_entries f found reached b es put count edges is all =
    ap (λ x. entries_of es x count) is
    ∙ (entries_agree es (map (entry_put f found b) es) count edges (recursion_from_All (λ (e : Operand × BlockId). count e.1.0 ≡ edges e.1.0) es all)
    ∙ entries_are_left f found reached b es edges)

-- ---- what is put by the state before the phis

pub by_reference : {A B : Type 0} (g : A → B) (r : Option (Bor A)) (o : Option A) → option_map (λ (x : Bor A). x.now) r ≡ o → option_map (λ (x : Bor A). g x.now) r ≡ option_map g o
by_reference g None o h = ap (option_map g) h
by_reference g (Some x) o h = ap (option_map g) h

pub pair_facts : (f checked : Function) → f ≡ checked → (o : Option (Stored AnyFact)) → ForSome o (IsStateOf fact_type IsAnyFact checked) → (s : Option FactState) → s ≡ option_map known o →
    ForSome s (AreFacts fact_type IsAnyFact f)
pair_facts f checked same o kept s is = subst (λ x. ForSome x (AreFacts fact_type IsAnyFact f)) (sym is) (by o kept)
  where
    by : (o : Option (Stored AnyFact)) → ForSome o (IsStateOf fact_type IsAnyFact checked) → ForSome (option_map known o) (AreFacts fact_type IsAnyFact f)
    by None h = λ x e. absurd (cc)
    by (Some t) h = λ x e. subst (AreFacts fact_type IsAnyFact f) (same_Some (known t) x e) (subst (λ g. IsStateOf fact_type IsAnyFact g t) (sym same) (h t refl)).facts

pub pair_put : (f : Function) (t : FactTable) (others : List (Option Operand)) → IsReadyToPut f t others → (b : ℕ) (e : Operand × BlockId) (s : Option FactState) →
    s ≡ fact_state f t (Into (Some e.1.0) b) → put_by f others s e.0 ≡ entry_put f (findings_of f t) b e
pair_put f t others ready b e s is = put_is f (findings_of f t) (Into (Some e.1.0) b) s others (λ ty a. ap (λ o. decision_in o ty a) (sym is)) ready.in_place e.0

pub pair_is : (f checked : Function) → f ≡ checked → (t : FactTable) (p b : ℕ) (o : Option (Stored AnyFact)) → option_map known o ≡ fact_state checked t (Into (Some p) b) →
    (s : Option FactState) → s ≡ option_map known o → s ≡ fact_state f t (Into (Some p) b)
pair_is f checked same t p b o there s is = is ∙ (there ∙ ap (λ (g : Function). fact_state g t (Into (Some p) b)) (sym same))

abbrev pub AllCounted : (ℕ → ℕ) → (ℕ → ℕ) → List (Operand × BlockId) → Type 0
AllCounted count edges es = All (λ (e : Operand × BlockId). count e.1.0 ≡ edges e.1.0) es

abbrev pub with_entries : Phi → List (Operand × BlockId) → Phi
with_entries phi es = record { result = phi.result; width = phi.width; entries = es }

-- ---- where a run may come to the block at all

pub phis_are_met : (f : Function) (t : FactTable) (reached : ℕ → Bool) (b : ℕ) (phis : List Phi) → is_some (t b) ≡ true →
    kept_phis f (first_marks f (findings_of f t) reached) b phis ≡ phis_left f (first_marks f (findings_of f t) reached) b phis
phis_are_met f t reached b phis some = by (t b) some
  where
    by : (o : Option FactState) → is_some o ≡ true → kept_phis f (first_marks f (findings_of f t) reached) b phis
        ≡ phis_if_met (is_some (followed (before_line fact_answers f b 0) o)) (kept_phis f (first_marks f (findings_of f t) reached) b phis)
    by None h = absurd (cc)
    by (Some s) h = refl

pub phis_are_gone : (f : Function) (t : FactTable) (reached : ℕ → Bool) (b : ℕ) (phis : List Phi) → is_some (t b) ≡ false →
    [] ≡ phis_left f (first_marks f (findings_of f t) reached) b phis
phis_are_gone f t reached b phis none = by (t b) none
  where
    by : (o : Option FactState) → is_some o ≡ false → [] ≡ phis_if_met (is_some (followed (before_line fact_answers f b 0) o)) (kept_phis f (first_marks f (findings_of f t) reached) b phis)
    by None h = refl
    by (Some s) h = absurd (cc)

pub entry_is_some : {A B : Type 0} (g : A → B) (r : Option A) (o : Option B) → option_map g r ≡ o → is_some o ≡ is_some r
entry_is_some g None o h = ap is_some (sym h)
entry_is_some g (Some x) o h = ap is_some (sym h)
