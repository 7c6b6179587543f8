-- One use asks for bits, and steps one after another.
use Rattle.std.proofs.Common.{◌≡◌, ◌≢◌, ◌<◌, ◌≤◌, ℕ, zero, suc, ◌+◌, ◌-◌, ◌*◌, ◌^◌, Bool, true, false, List, [], ◌∷◌, ◌++◌, length, get_or, set, take, Option, Some, None, flat_map, add-one, bit_or, ap, subst, arith, sym, refl, ◌∙◌, inl, inr, ◌⊎◌, length-set, append-nil}
use Rattle.std.proofs.lemmas.List.{get_or-set_same, get_or-set_other, take_more}
use Rattle.std.proofs.lemmas.List.Concat.{flat_map-append}
use Rattle.std.proofs.lemmas.Bool.{cases_eq}
use Rattle.vfa_ir.specs.declared.operations.Operand.{Operand}
use Rattle.vfa_ir.specs.declared.operations.ValueId.{ValueId}
use Rattle.vfa_ir.specs.declared.operations.BlockId.{BlockId}
use Rattle.vfa_ir.specs.declared.functions.Block.{Block}
use Rattle.vfa_ir.specs.declared.functions.Function.{Function}
use Rattle.vfa_ir.specs.declared.functions.Inst.{Inst}
use Rattle.vfa_ir.specs.declared.functions.Phi.{Phi}
use Rattle.std.specs.Prelude.{slice_get}
use Rattle.vfa_demand.specs.declared.definitions.Definition.{Definition}
use Rattle.vfa_ir.specs.Words.{is_in}
use Rattle.vfa_mean.specs.Kept.{is_marked}
use Rattle.vfa_mean.proofs.FreshOperands.Definitions.{in_first}
use Rattle.vfa_demand.specs.Masks.{Ask, IsPartOf, Have, ask_of, mask_in, phi_asks}
use Rattle.vfa_demand.specs.Steps.{room_in, IsPutAhead, IsStep, asks_below, definition_asks, line_asks_at, phi_asks_at}
use Rattle.vfa_demand.proofs.Parts.{have_append, have_left, have_right, have_grown}
use Rattle.vfa_demand.proofs.Searching.{marked_within}
use Rattle.vfa_demand.proofs.Within.{within_self, within_trans, within_or_left, within_or_right, within_le, or_within}

-- a step that changes nothing
pub quiet_step : (asks : List Ask) (bits : List ℕ) (waiting : List Bool) (ahead : List ℕ) → Have asks (mask_in bits) →
    IsStep asks bits bits waiting waiting ahead ahead
quiet_step asks bits waiting ahead have = record {
  same_length = refl;
  same_names = refl;
  have = have;
  grown = λ v. within_self (mask_in bits v);
  put = λ v. inl refl;
  still = λ v t. t;
  met = λ h. h;
  within = λ h. h;
  fits = λ h. h;
  least = λ other _ inside. inside;
  room = omega arith;
}

-- less room where one mask is greater
room_set : (bits : List ℕ) (v m : ℕ) → v < length bits → room_in (set bits v m) + (2 ^ 128 - get_or bits v 0) ≡ room_in bits + (2 ^ 128 - m)
room_set [] v m h = absurd (omega (arith, h))
room_set (b ∷ rest) zero m h = omega arith
room_set (b ∷ rest) (suc v) m h = let r = room_set rest v m (omega (arith, h)) in omega (arith, r)

less_room : (before after old new more less : ℕ) → after + (2 ^ 128 - old) ≡ before + (2 ^ 128 - new) → old ≤ new → old ≢ new → new < 2 ^ 128 →
    more ≤ less + 1 → 2 * after + more ≤ 2 * before + less
less_room before after old new more less same up apart fits one = omega (arith, same, up, apart, fits, one)

pub grown_step : (bits : List ℕ) (v : ValueId) (more : ℕ) (waiting waiting' : List Bool) (ahead ahead' : List ℕ) → v.0 < length bits →
    bit_or (mask_in bits v.0) more < 2 ^ 128 → bit_or (mask_in bits v.0) more ≢ mask_in bits v.0 → IsPutAhead v.0 waiting waiting' ahead ahead' →
    IsStep (ask_of more (Operand.Value v)) bits (set bits v.0 (bit_or (mask_in bits v.0) more)) waiting waiting' ahead ahead'
grown_step bits v more waiting waiting' ahead ahead' within fits other_mask put =
    let old : ℕ = mask_in bits v.0 in
    let new : ℕ = bit_or old more in
    let taken = put.taken in
    record {
      same_length = length-set bits v.0 new;
      same_names = taken.whole;
      have = (subst (IsPartOf more) (sym here) (within_or_right old more), tt);
      grown = λ u. grown u (cases_eq u v.0);
      put = λ u. elim (cases_eq u v.0) [
        | inl e ↦ inr (taken.taken u (in_first u v.0 [] e))
        | inr apart ↦ inl (get_or-set_other bits v.0 u new 0 apart)
      ];
      still = taken.kept;
      met = λ h u t. elim (taken.put u t) [ inl w ↦ taken.still u (h u w) | inr s ↦ s ];
      within = λ h u t. elim (taken.from u t) [
        | inl s ↦ h u s
        | inr w ↦ subst (λ n. u < n) taken.whole (marked_within waiting' u w)
      ];
      fits = λ fit u. small fit u (cases_eq u v.0);
      least = λ other have inside u. at_value other have.0 inside u (cases_eq u v.0);
      room = less_room (room_in bits) (room_in (set bits v.0 new)) old new (length ahead') (length ahead) (room_set bits v.0 new within)
          (within_le old new (within_or_left old more)) (λ e. other_mask (sym e)) fits put.one_more;
    }
  where
    here : mask_in (set bits v.0 (bit_or (mask_in bits v.0) more)) v.0 ≡ bit_or (mask_in bits v.0) more
    here = get_or-set_same bits v.0 (bit_or (mask_in bits v.0) more) 0 within

    grown : (u : ℕ) → (u ≡ v.0) ⊎ (u ≢ v.0) → IsPartOf (mask_in bits u) (mask_in (set bits v.0 (bit_or (mask_in bits v.0) more)) u)
    grown u (inl same) =
        subst (λ u. IsPartOf (mask_in bits u) (mask_in (set bits v.0 (bit_or (mask_in bits v.0) more)) u)) (sym same)
        (subst (IsPartOf (mask_in bits v.0)) (sym here) (within_or_left (mask_in bits v.0) more))
    grown u (inr apart) =
        subst (IsPartOf (mask_in bits u)) (sym (get_or-set_other bits v.0 u (bit_or (mask_in bits v.0) more) 0 apart)) (within_self (mask_in bits u))

    small : ((u : ℕ) → mask_in bits u < 2 ^ 128) → (u : ℕ) → (u ≡ v.0) ⊎ (u ≢ v.0) →
        mask_in (set bits v.0 (bit_or (mask_in bits v.0) more)) u < 2 ^ 128
    small fit u (inl same) =
        subst (λ u. mask_in (set bits v.0 (bit_or (mask_in bits v.0) more)) u < 2 ^ 128) (sym same)
        (subst (λ m. m < 2 ^ 128) (sym here) fits)
    small fit u (inr apart) =
        subst (λ m. m < 2 ^ 128) (sym (get_or-set_other bits v.0 u (bit_or (mask_in bits v.0) more) 0 apart)) (fit u)

    at_value : (other : ℕ → ℕ) → IsPartOf more (other v.0) → ((u : ℕ) → IsPartOf (mask_in bits u) (other u)) →
        (u : ℕ) → (u ≡ v.0) ⊎ (u ≢ v.0) → IsPartOf (mask_in (set bits v.0 (bit_or (mask_in bits v.0) more)) u) (other u)
    at_value other have inside u (inl same) =
        subst (λ u. IsPartOf (mask_in (set bits v.0 (bit_or (mask_in bits v.0) more)) u) (other u)) (sym same)
        (subst (λ m. IsPartOf m (other v.0)) (sym here)
        (or_within (mask_in bits v.0) more (other v.0) (inside v.0) have))
    at_value other have inside u (inr apart) =
        subst (λ m. IsPartOf m (other u)) (sym (get_or-set_other bits v.0 u (bit_or (mask_in bits v.0) more) 0 apart)) (inside u)

-- a step and then another
pub step_then : (xs ys : List Ask) (s0 s1 s2 : List ℕ) (w0 w1 w2 : List Bool) (a0 a1 a2 : List ℕ) → IsStep xs s0 s1 w0 w1 a0 a1 →
    IsStep ys s1 s2 w1 w2 a1 a2 → IsStep (xs ++ ys) s0 s2 w0 w2 a0 a2
step_then xs ys s0 s1 s2 w0 w1 w2 a0 a1 a2 one two = record {
  same_length = two.same_length ∙ one.same_length;
  same_names = two.same_names ∙ one.same_names;
  have = have_append xs ys (mask_in s2) (have_grown xs (mask_in s1) (mask_in s2) two.grown one.have) two.have;
  grown = λ v. within_trans (mask_in s0 v) (mask_in s1 v) (mask_in s2 v) (one.grown v) (two.grown v);
  put = λ v. put v (one.put v) (two.put v);
  still = λ v t. two.still v (one.still v t);
  met = λ h. two.met (one.met h);
  within = λ h v t. subst (λ n. v < n) one.same_names (two.within (λ u s. subst (λ n. u < n) (sym one.same_names) (one.within h u s)) v t);
  fits = λ h. two.fits (one.fits h);
  least = λ other have inside. two.least other (have_right xs ys other have) (one.least other (have_left xs ys other have) inside);
  room = omega (arith, one.room, two.room);
}
  where
    put : (v : ℕ) → (mask_in s1 v ≡ mask_in s0 v) ⊎ (is_marked w1 v ≡ true) → (mask_in s2 v ≡ mask_in s1 v) ⊎ (is_marked w2 v ≡ true) →
        (mask_in s2 v ≡ mask_in s0 v) ⊎ (is_marked w2 v ≡ true)
    put v (inl e) (inl d) = inl (d ∙ e)
    put v (inr t) (inl d) = inr (two.still v t)
    put v e (inr t) = inr t

-- a step by what asks for the same
pub step_alike : (xs ys : List Ask) (s0 s1 : List ℕ) (w0 w1 : List Bool) (a0 a1 : List ℕ) → ((m : ℕ → ℕ) → Have xs m → Have ys m) →
    ((m : ℕ → ℕ) → Have ys m → Have xs m) → IsStep xs s0 s1 w0 w1 a0 a1 → IsStep ys s0 s1 w0 w1 a0 a1
step_alike xs ys s0 s1 w0 w1 a0 a1 to from step = record {
  same_length = step.same_length;
  same_names = step.same_names;
  have = to (mask_in s1) step.have;
  grown = step.grown;
  put = step.put;
  still = step.still;
  met = step.met;
  within = step.within;
  fits = step.fits;
  least = λ other have. step.least other (from other have);
  room = step.room;
}

-- the parts of a list, one after another
pub step_more : {X : Type 0} (asks : X → List Ask) (xs : List X) (i : ℕ) (d : X) (s0 s1 s2 : List ℕ) (w0 w1 w2 : List Bool) (a0 a1 a2 : List ℕ) →
    i < length xs → IsStep (flat_map asks (take i xs)) s0 s1 w0 w1 a0 a1 → IsStep (asks (get_or xs i d)) s1 s2 w1 w2 a1 a2 →
    IsStep (flat_map asks (take (i + 1) xs)) s0 s2 w0 w2 a0 a2
step_more {X} asks xs i d s0 s1 s2 w0 w1 w2 a0 a1 a2 less one two =
    let x : X = get_or xs i d in
    let same : flat_map asks (take (i + 1) xs) ≡ flat_map asks (take i xs) ++ asks x =
    ap (flat_map asks) (take_more xs i d less) ∙ flat_map-append asks (take i xs) (x ∷ []) ∙ ap (λ m. flat_map asks (take i xs) ++ m) (append-nil (asks x)) in
    subst (λ l. IsStep l s0 s2 w0 w2 a0 a2) (sym same) (step_then (flat_map asks (take i xs)) (asks x) s0 s1 s2 w0 w1 w2 a0 a1 a2 one two)

-- the places of a list, one after another
pub below_more : (asks : ℕ → List Ask) (n : ℕ) (s0 s1 s2 : List ℕ) (w0 w1 w2 : List Bool) (a0 a1 a2 : List ℕ) →
    IsStep (asks_below asks n) s0 s1 w0 w1 a0 a1 → IsStep (asks n) s1 s2 w1 w2 a1 a2 → IsStep (asks_below asks (n + 1)) s0 s2 w0 w2 a0 a2
below_more asks n s0 s1 s2 w0 w1 w2 a0 a1 a2 one two =
    subst (λ k. IsStep (asks_below asks k) s0 s2 w0 w2 a0 a2) (sym (add-one n)) (step_then (asks_below asks n) (asks n) s0 s1 s2 w0 w1 w2 a0 a1 a2 one two)

-- ---- the part at a place, where there is one, and where there is none

pub part_there : {X : Type 0} (asks : X → List Ask) (o : Option X) (x : X) (s0 s1 : List ℕ) (w0 w1 : List Bool) (a0 a1 : List ℕ) → o ≡ Some x →
    IsStep (asks x) s0 s1 w0 w1 a0 a1 → IsStep (elim o [ None ↦ [] | Some x ↦ asks x ]) s0 s1 w0 w1 a0 a1
part_there asks o x s0 s1 w0 w1 a0 a1 is step = subst (λ o. IsStep (elim o [ None ↦ [] | Some x ↦ asks x ]) s0 s1 w0 w1 a0 a1) (sym is) step

pub no_part : {X : Type 0} (asks : X → List Ask) (o : Option X) (s : List ℕ) (w : List Bool) (a : List ℕ) → o ≡ None →
    IsStep (elim o [ None ↦ [] | Some x ↦ asks x ]) s s w w a a
no_part asks o s w a is = subst (λ o. IsStep (elim o [ None ↦ [] | Some x ↦ asks x ]) s s w w a a) (sym is) (quiet_step [] s w a tt)

pub phi_part : (phis : List Phi) (place : ℕ) (p : Phi) (entries : List (Operand × BlockId)) (d : ℕ) (m : ℕ → ℕ) (s0 s1 : List ℕ) (w0 w1 : List Bool) (a0 a1 : List ℕ) →
    slice_get phis place ≡ Some p → entries ≡ p.entries → d ≡ m p.result.0 → IsStep (flat_map (λ e. ask_of d e.0) entries) s0 s1 w0 w1 a0 a1 →
    IsStep (phi_asks_at m phis place) s0 s1 w0 w1 a0 a1
phi_part phis place p entries d m s0 s1 w0 w1 a0 a1 found same mask step =
    part_there (phi_asks m) (slice_get phis place) p s0 s1 w0 w1 a0 a1 found
    (subst (λ (xs : List (Operand × BlockId)). IsStep (flat_map (λ e. ask_of (m p.result.0) e.0) xs) s0 s1 w0 w1 a0 a1) same
    (subst (λ d. IsStep (flat_map (λ e. ask_of d e.0) entries) s0 s1 w0 w1 a0 a1) mask step))

-- ---- a definition, by its block

pub phi_of_block : (f : Function) (m : ℕ → ℕ) (d : Definition) (b j : ℕ) (blocks : List Block) (block : Block) (phis : List Phi) (s0 s1 : List ℕ) (w0 w1 : List Bool)
    (a0 a1 : List ℕ) → d ≡ Definition.Phi b j → blocks ≡ f.blocks → slice_get blocks b ≡ Some block → phis ≡ block.phis →
    IsStep (phi_asks_at m phis j) s0 s1 w0 w1 a0 a1 → IsStep (definition_asks f m d) s0 s1 w0 w1 a0 a1
phi_of_block f m d b j blocks block phis s0 s1 w0 w1 a0 a1 is same found same_phis step =
    subst (λ d. IsStep (definition_asks f m d) s0 s1 w0 w1 a0 a1) (sym is)
    (part_there (λ (x : Block). phi_asks_at m x.phis j) (slice_get f.blocks b) block s0 s1 w0 w1 a0 a1
    (subst (λ (bs : List Block). slice_get bs b ≡ Some block) same found)
    (subst (λ (xs : List Phi). IsStep (phi_asks_at m xs j) s0 s1 w0 w1 a0 a1) same_phis step))

pub line_of_block : (f : Function) (m : ℕ → ℕ) (d : Definition) (b i : ℕ) (blocks : List Block) (block : Block) (insts : List Inst) (s0 s1 : List ℕ) (w0 w1 : List Bool)
    (a0 a1 : List ℕ) → d ≡ Definition.Line b i → blocks ≡ f.blocks → slice_get blocks b ≡ Some block → insts ≡ block.insts →
    IsStep (line_asks_at f m insts i) s0 s1 w0 w1 a0 a1 → IsStep (definition_asks f m d) s0 s1 w0 w1 a0 a1
line_of_block f m d b i blocks block insts s0 s1 w0 w1 a0 a1 is same found same_insts step =
    subst (λ d. IsStep (definition_asks f m d) s0 s1 w0 w1 a0 a1) (sym is)
    (part_there (λ (x : Block). line_asks_at f m x.insts i) (slice_get f.blocks b) block s0 s1 w0 w1 a0 a1
    (subst (λ (bs : List Block). slice_get bs b ≡ Some block) same found)
    (subst (λ (xs : List Inst). IsStep (line_asks_at f m xs i) s0 s1 w0 w1 a0 a1) same_insts step))

pub phi_of_none : (f : Function) (m : ℕ → ℕ) (d : Definition) (b j : ℕ) (blocks : List Block) (s : List ℕ) (w : List Bool) (a : List ℕ) → d ≡ Definition.Phi b j →
    blocks ≡ f.blocks → slice_get blocks b ≡ None → IsStep (definition_asks f m d) s s w w a a
phi_of_none f m d b j blocks s w a is same none =
    subst (λ d. IsStep (definition_asks f m d) s s w w a a) (sym is)
    (no_part (λ (x : Block). phi_asks_at m x.phis j) (slice_get f.blocks b) s w a (subst (λ (bs : List Block). slice_get bs b ≡ None) same none))

pub line_of_none : (f : Function) (m : ℕ → ℕ) (d : Definition) (b i : ℕ) (blocks : List Block) (s : List ℕ) (w : List Bool) (a : List ℕ) → d ≡ Definition.Line b i →
    blocks ≡ f.blocks → slice_get blocks b ≡ None → IsStep (definition_asks f m d) s s w w a a
line_of_none f m d b i blocks s w a is same none =
    subst (λ d. IsStep (definition_asks f m d) s s w w a a) (sym is)
    (no_part (λ (x : Block). line_asks_at f m x.insts i) (slice_get f.blocks b) s w a (subst (λ (bs : List Block). slice_get bs b ≡ None) same none))
