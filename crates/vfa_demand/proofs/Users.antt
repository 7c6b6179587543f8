-- What instructions and phis ask for, operand by operand.
use Rattle.std.proofs.Common.{◌≡◌, ◌<◌, ◌≤◌, ℕ, zero, suc, ◌+◌, ◌^◌, Bool, true, false, List, [], ◌∷◌, ◌++◌, length, flat_map, Option, Some, None, if◌then◌else◌, nat_eq, ap, subst, arith, lit<, sym, refl, ◌∙◌, inl, inr, ◌⊎◌}
use Rattle.std.proofs.lemmas.Bool.{cases_lt}
use Rattle.std.specs.Prelude.{slice_get}
use Rattle.vfa_ir.specs.declared.operations.BlockId.{BlockId}
use Rattle.vfa_ir.specs.declared.operations.Op.{Op}
use Rattle.vfa_ir.specs.declared.operations.Operand.{Operand}
use Rattle.vfa_ir.specs.declared.operations.Ty.{Ty}
use Rattle.vfa_ir.specs.declared.operations.ValueId.{ValueId}
use Rattle.vfa_ir.specs.declared.functions.Function.{Function}
use Rattle.vfa_ir.specs.declared.functions.Inst.{Inst}
use Rattle.vfa_ir.specs.Operands.{operands_of}
use Rattle.vfa_demand.specs.Rows.{all_bits, asked, needs_all, of_operand}
use Rattle.vfa_demand.specs.Masks.{Ask, IsPartOf, Have, ask_of, number_width, operand_asks, result_mask}
use Rattle.vfa_demand.specs.Steps.{asks_below, place_asks}
use Rattle.vfa_demand.proofs.Monotone.{asked_within}
use Rattle.vfa_demand.proofs.Parts.{have_append, have_left, have_right}
use Rattle.vfa_demand.proofs.Within.{none_within, within_trans}

-- ---- places one after another

pub have_below : (asks : ℕ → List Ask) (n : ℕ) (m : ℕ → ℕ) → ((k : ℕ) → k < n → Have (asks k) m) → Have (asks_below asks n) m
have_below asks zero m h = tt
have_below asks (suc n) m h = have_append (asks_below asks n) (asks n) m (have_below asks n m (λ k less. h k (omega (arith, less)))) (h n (omega arith))

pub below_have : (asks : ℕ → List Ask) (n k : ℕ) (m : ℕ → ℕ) → k < n → Have (asks_below asks n) m → Have (asks k) m
below_have asks zero k m less h = absurd (omega (arith, less))
below_have asks (suc n) k m less h = elim (cases_lt k n) [
  | inl before ↦ below_have asks n k m before (have_left (asks_below asks n) (asks n) m h)
  | inr last ↦ let same : n ≡ k = omega (arith, less, last) in subst (λ k. Have (asks k) m) same (have_right (asks_below asks n) (asks n) m h)
]

-- what the operand of a place of a list asks for, where the first of the list has place n
abbrev pub listed_asks : Op → ℕ → ℕ → List (Ty × Operand) → ℕ → List Ask
listed_asks op d n ops k = elim (slice_get ops k) [
  | None ↦ []
  | Some o ↦ ask_of (asked op (number_width o.0) (n + k) d) o.1
]

next_place : (op : Op) (d n : ℕ) (o : Ty × Operand) (ops : List (Ty × Operand)) (k : ℕ) →
    listed_asks op d (n + 1) ops k ≡ listed_asks op d n (o ∷ ops) (suc k)
next_place op d n o ops k =
    let same : n + 1 + k ≡ n + suc k = omega arith in
    ap (λ p. elim (slice_get ops k) [ None ↦ [] | Some o ↦ ask_of (asked op (number_width o.0) p d) o.1 ]) same

operands_have : (op : Op) (d n : ℕ) (ops : List (Ty × Operand)) (m : ℕ → ℕ) →
    ((k : ℕ) → k < length ops → Have (listed_asks op d n ops k) m) → Have (operand_asks op d n ops) m
operands_have op d n [] m h = tt
operands_have op d n (o ∷ ops) m h =
    let first : Have (ask_of (asked op (number_width o.0) n d) o.1) m =
    subst (λ p. Have (ask_of (asked op (number_width o.0) p d) o.1) m) (omega arith) (h 0 (omega arith)) in
    have_append (ask_of (asked op (number_width o.0) n d) o.1) (operand_asks op d (n + 1) ops) m first
    (operands_have op d (n + 1) ops m (λ k less. subst (λ asks. Have asks m) (sym (next_place op d n o ops k)) (h (suc k) (omega (arith, less)))))

have_operands : (op : Op) (d n : ℕ) (ops : List (Ty × Operand)) (m : ℕ → ℕ) → Have (operand_asks op d n ops) m →
    (k : ℕ) → Have (listed_asks op d n ops k) m
have_operands op d n [] m h k = tt
have_operands op d n (o ∷ ops) m h zero =
    subst (λ p. Have (ask_of (asked op (number_width o.0) p d) o.1) m) (omega arith)
    (have_left (ask_of (asked op (number_width o.0) n d) o.1) (operand_asks op d (n + 1) ops) m h)
have_operands op d n (o ∷ ops) m h (suc k) =
    subst (λ asks. Have asks m) (next_place op d n o ops k)
    (have_operands op d (n + 1) ops m (have_right (ask_of (asked op (number_width o.0) n d) o.1) (operand_asks op d (n + 1) ops) m h) k)

-- a lesser mask of a result asks for less
less_asked : (bits more : ℕ) (o : Operand) (m : ℕ → ℕ) → IsPartOf bits more → Have (ask_of more o) m → Have (ask_of bits o) m
less_asked bits more (Operand.Value v) m h have = (within_trans bits more (m v.0) h have.0, tt)
less_asked bits more (Operand.Literal c) m h have = tt
less_asked bits more Operand.Poison m h have = tt

-- ---- lesser masks of results

pub less_operands : (op : Op) (d e n : ℕ) (ops : List (Ty × Operand)) (m : ℕ → ℕ) → d < 2 ^ 128 → e < 2 ^ 128 → IsPartOf d e →
    Have (operand_asks op e n ops) m → Have (operand_asks op d n ops) m
less_operands op d e n [] m f g h have = tt
less_operands op d e n (o ∷ ops) m f g h have =
    have_append (ask_of (asked op (number_width o.0) n d) o.1) (operand_asks op d (n + 1) ops) m
    (less_asked (asked op (number_width o.0) n d) (asked op (number_width o.0) n e) o.1 m (asked_within op (number_width o.0) n d e f g h)
    (have_left (ask_of (asked op (number_width o.0) n e) o.1) (operand_asks op e (n + 1) ops) m have))
    (less_operands op d e (n + 1) ops m f g h (have_right (ask_of (asked op (number_width o.0) n e) o.1) (operand_asks op e (n + 1) ops) m have))

pub less_entries : (entries : List (Operand × BlockId)) (d e : ℕ) (m : ℕ → ℕ) → IsPartOf d e →
    Have (flat_map (λ e'. ask_of e e'.0) entries) m → Have (flat_map (λ e'. ask_of d e'.0) entries) m
less_entries [] d e m h have = tt
less_entries (x ∷ rest) d e m h have =
    have_append (ask_of d x.0) (flat_map (λ y. ask_of d y.0) rest) m
    (less_asked d e x.0 m h (have_left (ask_of e x.0) (flat_map (λ y. ask_of e y.0) rest) m have))
    (less_entries rest d e m h (have_right (ask_of e x.0) (flat_map (λ y. ask_of e y.0) rest) m have))

-- ---- nothing is asked of a result

none_asked : (o : Operand) (m : ℕ → ℕ) → Have (ask_of 0 o) m
none_asked (Operand.Value v) m = (none_within (m v.0), tt)
none_asked (Operand.Literal c) m = tt
none_asked Operand.Poison m = tt

asked_nothing : (op : Op) (w place : ℕ) → needs_all op ≡ false → asked op w place 0 ≡ 0
unfolding asked
asked_nothing op w place h = ap (λ b. if b then all_bits w else 0) h

asked_alike : (op : Op) (w place d e : ℕ) → needs_all op ≡ true → asked op w place d ≡ asked op w place e
unfolding asked
asked_alike op w place d e h =
    ap (λ b. if b then all_bits w else (if nat_eq d 0 then 0 else of_operand op w place d)) h
    ∙ sym (ap (λ b. if b then all_bits w else (if nat_eq e 0 then 0 else of_operand op w place e)) h)

pub entries_ask_nothing : (entries : List (Operand × BlockId)) (m : ℕ → ℕ) → Have (flat_map (λ e. ask_of 0 e.0) entries) m
entries_ask_nothing [] m = tt
entries_ask_nothing (x ∷ rest) m = have_append (ask_of 0 x.0) (flat_map (λ y. ask_of 0 y.0) rest) m (none_asked x.0 m) (entries_ask_nothing rest m)

pub operands_ask_nothing : (op : Op) (n : ℕ) (ops : List (Ty × Operand)) (m : ℕ → ℕ) → needs_all op ≡ false → Have (operand_asks op 0 n ops) m
operands_ask_nothing op n [] m h = tt
operands_ask_nothing op n (o ∷ ops) m h =
    have_append (ask_of (asked op (number_width o.0) n 0) o.1) (operand_asks op 0 (n + 1) ops) m
    (subst (λ d. Have (ask_of d o.1) m) (sym (asked_nothing op (number_width o.0) n h)) (none_asked o.1 m))
    (operands_ask_nothing op (n + 1) ops m h)

pub operands_ask_alike : (op : Op) (d e n : ℕ) (ops : List (Ty × Operand)) → needs_all op ≡ true → operand_asks op d n ops ≡ operand_asks op e n ops
operands_ask_alike op d e n [] h = refl
operands_ask_alike op d e n (o ∷ ops) h =
    ap (λ bits. ask_of bits o.1 ++ operand_asks op d (n + 1) ops) (asked_alike op (number_width o.0) n d e h)
    ∙ ap (λ rest. ask_of (asked op (number_width o.0) n e) o.1 ++ rest) (operands_ask_alike op d e (n + 1) ops h)

-- ---- results

pub result_within : (i : Inst) (m other : ℕ → ℕ) → ((v : ℕ) → IsPartOf (m v) (other v)) → IsPartOf (result_mask m i) (result_mask other i)
result_within i m other h = of i.result
  where
    of : (r : Option ValueId) → IsPartOf (elim r [ None ↦ 0 | Some v ↦ m v.0 ]) (elim r [ None ↦ 0 | Some v ↦ other v.0 ])
    of None = none_within 0
    of (Some v) = h v.0

pub result_fits : (i : Inst) (m : ℕ → ℕ) → ((v : ℕ) → m v < 2 ^ 128) → result_mask m i < 2 ^ 128
result_fits i m h = of i.result
  where
    of : (r : Option ValueId) → (elim r [ None ↦ 0 | Some v ↦ m v.0 ]) < 2 ^ 128
    of None = lit< tt
    of (Some v) = h v.0

at_zero : (f : Function) (op : Op) (d k : ℕ) → listed_asks op d 0 (operands_of f op) k ≡ place_asks f op k d
at_zero f op d k =
    let same : 0 + k ≡ k = omega arith in
    ap (λ p. elim (slice_get (operands_of f op) k) [ None ↦ [] | Some o ↦ ask_of (asked op (number_width o.0) p d) o.1 ]) same

-- all operands of an operation, by their places
pub places_have : (f : Function) (op : Op) (d n : ℕ) (m : ℕ → ℕ) → length (operands_of f op) ≤ n →
    Have (asks_below (λ k. place_asks f op k d) n) m → Have (operand_asks op d 0 (operands_of f op)) m
places_have f op d n m all h =
    operands_have op d 0 (operands_of f op) m (λ k less. subst (λ asks. Have asks m) (sym (at_zero f op d k))
    (below_have (λ k. place_asks f op k d) n k m (omega (arith, less, all)) h))

pub have_places : (f : Function) (op : Op) (d n : ℕ) (m : ℕ → ℕ) → Have (operand_asks op d 0 (operands_of f op)) m →
    Have (asks_below (λ k. place_asks f op k d) n) m
have_places f op d n m h =
    have_below (λ k. place_asks f op k d) n m (λ k less. subst (λ asks. Have asks m) (at_zero f op d k) (have_operands op d 0 (operands_of f op) m h k))
