-- Edges between kept blocks, and the phis that fit them.
use Rattle.std.proofs.Common.{◌≡◌, ℕ, zero, suc, ◌+◌, ◌<◌, ◌≤◌, Bool, true, false, cond, nat_eq, List, [], ◌∷◌, map, length, All, Option, Some, None, IfSome, refl, sym, ap, ◌∙◌, subst, inl, inr, arith, ne_eqb, count_by}
use Rattle.std.proofs.lemmas.Bool.{cases_lt}
use Rattle.std.proofs.lemmas.List.{length-map}
use Rattle.std.proofs.lemmas.List.Elements.{All-head, All-tail}
use Rattle.std.proofs.lemmas.List.Sums.{sum_by-cons}
use Rattle.std.proofs.lemmas.Option.{get_or_from_slice_get, same_Some, slice_get-map, slice_get_past}
use Rattle.std.specs.List.{AllByRecursion, AllPairs, IsDistinct, filter, range_with_len, slice_get, slice_index_or}
use Rattle.std.specs.Option.{option_map}
use Rattle.vfa_ir.specs.declared.operations.BlockId.{BlockId}
use Rattle.vfa_ir.specs.declared.operations.Operand.{Operand}
use Rattle.vfa_ir.specs.declared.functions.Block.{Block}
use Rattle.vfa_ir.specs.declared.functions.Function.{Function}
use Rattle.vfa_ir.specs.declared.functions.Phi.{Phi}
use Rattle.vfa_ir.specs.declared.functions.Term.{Term}
use Rattle.vfa_ir.specs.PhisFit.{HasNoEdgeTo, PhiFits, PhisFit, PhisFitIn, edge_count, targets}
use Rattle.vfa_ir.specs.Walks.{is_in}
use Rattle.vfa_mean.specs.Outcomes.{first_block}
use Rattle.vfa_mean.specs.Renaming.{Order, at_places, place_among, renamed_block, renamed_case, renamed_entry, renamed_operand, renamed_phi, renamed_target, renamed_term}
use Rattle.vfa_mean.specs.Numbering.{KeptPhiFits, KeptPhisFit, MayBeNumbered, kept_numbers, numbered, text_order}
use Rattle.vfa_mean.proofs.FreshOperands.Definitions.{in_first, in_rest, range_distinct}
use Rattle.vfa_mean.proofs.KeptParts.{covers_kept, kept_number}
use Rattle.vfa_mean.proofs.PlacesAmong.{length-at_places, place_below, place_test, same_place, stands_within}
use Rattle.vfa_mean.proofs.RenamedRuns.{block_there, first_place}
use Rattle.vfa_mean.proofs.RenamedTypes.{all_renamed}
use Rattle.vfa_mean.proofs.TextOrder.{places_in_order}

-- ---- kept numbers are distinct, so each place is that of one of them

apart_kept : (keeps : ℕ → Bool) (x : ℕ) (xs : List ℕ) → AllByRecursion (λ y. nat_eq x y ≡ false) xs → AllByRecursion (λ y. nat_eq x y ≡ false) (filter keeps xs)
apart_kept keeps x [] d = tt
apart_kept keeps x (y ∷ xs) d = by (keeps y) (apart_kept keeps x xs d.1)
  where
    by : (t : Bool) → AllByRecursion (λ z. nat_eq x z ≡ false) (filter keeps xs) →
        AllByRecursion (λ z. nat_eq x z ≡ false) (cond t (y ∷ filter keeps xs) (filter keeps xs))
    by true again = (d.0, again)
    by false again = again

filter_distinct : (keeps : ℕ → Bool) (xs : List ℕ) → IsDistinct nat_eq xs → IsDistinct nat_eq (filter keeps xs)
unfolding IsDistinct
filter_distinct keeps [] d = tt
filter_distinct keeps (x ∷ xs) d = by (keeps x) (filter_distinct keeps xs d.1)
  where
    by : (t : Bool) → IsDistinct nat_eq (filter keeps xs) → IsDistinct nat_eq (cond t (x ∷ filter keeps xs) (filter keeps xs))
    by true again = (apart_kept keeps x xs d.0, again)
    by false again = again

in_range_at : (a n i : ℕ) → i < n → slice_get (range_with_len a n) i ≡ Some (a + i)
in_range_at a zero i l = absurd (omega arith)
in_range_at a (suc n) zero l = ap Some (omega arith)
in_range_at a (suc n) (suc i) l = in_range_at (a + 1) n i (omega arith) ∙ ap Some (omega arith)

-- a number that stands at a place
pub record StandsAt (numbers : List ℕ) (place : ℕ) : Type 0 where
  pub number : ℕ
  pub among : is_in number numbers ≡ true
  pub is : place_among numbers number ≡ place

at_is_in : (xs : List ℕ) (i x : ℕ) → slice_get xs i ≡ Some x → is_in x xs ≡ true
at_is_in [] i x e = absurd (cc)
at_is_in (y ∷ xs) zero x e = in_first x y xs (sym (same_Some y x e))
at_is_in (y ∷ xs) (suc i) x e = in_rest x y xs (at_is_in xs i x e)

stands_at : (xs : List ℕ) → IsDistinct nat_eq xs → (i : ℕ) → i < length xs → StandsAt xs i
stands_at xs d i l =
    let there = stands_within xs i l in
    let places : option_map (place_among xs) (slice_get xs i) ≡ Some i =
    sym (slice_get-map (place_among xs) xs i) ∙ ap (λ ys. slice_get ys i) (places_in_order xs d) ∙ in_range_at 0 (length xs) i l ∙ ap Some (omega arith) in
    record {
      number = there.0;
      among = at_is_in xs i there.0 there.1;
      is = same_Some (place_among xs there.0) i (ap (option_map (place_among xs)) (sym there.1) ∙ places);
    }

pub kept_numbers_distinct : (f : Function) (keeps : ℕ → Bool) → IsDistinct nat_eq (kept_numbers f keeps)
kept_numbers_distinct f keeps = filter_distinct keeps (range_with_len 0 (length f.blocks)) (range_distinct 0 (length f.blocks))

pub kept_at : (f : Function) (keeps : ℕ → Bool) (i : ℕ) → i < length (kept_numbers f keeps) → StandsAt (kept_numbers f keeps) i
kept_at f keeps = stands_at (kept_numbers f keeps) (kept_numbers_distinct f keeps)

-- ---- edges

count_map : {X Y : Type 0} (p : Y → Bool) (q : X → Bool) (r : X → Y) → ((x : X) → p (r x) ≡ q x) → (xs : List X) → count_by p (map r xs) ≡ count_by q xs
count_map p q r e [] = refl
count_map p q r e (x ∷ xs) =
    sum_by-cons (λ y. cond (p y) 1 0) (r x) (map r xs)
    ∙ ap (λ t. cond t 1 0 + count_by p (map r xs)) (e x)
    ∙ ap (λ n. cond (q x) 1 0 + n) (count_map p q r e xs)
    ∙ sym (sum_by-cons (λ y. cond (q y) 1 0) x xs)

count_none : {X Y : Type 0} (p : Y → Bool) (r : X → Y) (xs : List X) → All (λ x. p (r x) ≡ false) xs → count_by p (map r xs) ≡ 0
count_none p r [] h = refl
count_none {X} p r (x ∷ xs) h =
    let P : X → Type 0 = λ x. p (r x) ≡ false in
    sum_by-cons (λ y. cond (p y) 1 0) (r x) (map r xs)
    ∙ ap (λ t. cond t 1 0 + count_by p (map r xs)) (All-head P x xs h)
    ∙ ap (λ n. 0 + n) (count_none p r xs (All-tail P x xs h))

cases_targets : (o : Order) (cases : List (ℕ × BlockId)) →
    map (λ (c : ℕ × BlockId). c.1) (map (renamed_case o) cases) ≡ map (renamed_target o) (map (λ (c : ℕ × BlockId). c.1) cases)
cases_targets o [] = refl
cases_targets o (c ∷ cases) = ap (λ r. renamed_target o c.1 ∷ r) (cases_targets o cases)

pub targets_renamed : (o : Order) (t : Term) → targets (renamed_term o t) ≡ map (renamed_target o) (targets t)
targets_renamed o (Term.Ret w a) = refl
targets_renamed o (Term.Br to) = refl
targets_renamed o (Term.CondBr c taken fallen) = refl
targets_renamed o (Term.Switch w on other cases) = ap (λ r. renamed_target o other ∷ r) (cases_targets o cases)
targets_renamed o Term.Unreachable = refl

abbrev edges_of : Option Block → ℕ → ℕ
edges_of found to = elim found [ None ↦ 0 | Some b ↦ count_by (λ (t : BlockId). nat_eq t.0 to) (targets b.term) ]

-- entries of one kept predecessor have one operand
pairs_kept : (o : Order) (entries : List (Operand × BlockId)) → All (λ (e : Operand × BlockId). is_in e.1.0 o.blocks ≡ true) entries →
    AllPairs (λ (d : Operand × BlockId) (e : Operand × BlockId). d.1 ≡ e.1 → d.0 ≡ e.0) entries →
    AllPairs (λ (d : Operand × BlockId) (e : Operand × BlockId). d.1 ≡ e.1 → d.0 ≡ e.0) (map (renamed_entry o) entries)
pairs_kept o entries among pairs i j d l m same =
    let long : length (map (renamed_entry o) entries) ≡ length entries = length-map entries (renamed_entry o) in
    let within : j < length entries = omega arith in
    let x = stands_within entries i (omega arith) in
    let y = stands_within entries j within in
    let at_x : slice_index_or (map (renamed_entry o) entries) i d ≡ renamed_entry o x.0 =
    get_or_from_slice_get (map (renamed_entry o) entries) i (renamed_entry o x.0) d (slice_get-map (renamed_entry o) entries i ∙ ap (option_map (renamed_entry o)) x.1) in
    let at_y : slice_index_or (map (renamed_entry o) entries) j d ≡ renamed_entry o y.0 =
    get_or_from_slice_get (map (renamed_entry o) entries) j (renamed_entry o y.0) d (slice_get-map (renamed_entry o) entries j ∙ ap (option_map (renamed_entry o)) y.1) in
    let is_x : slice_index_or entries i x.0 ≡ x.0 = get_or_from_slice_get entries i x.0 x.0 x.1 in
    let is_y : slice_index_or entries j x.0 ≡ y.0 = get_or_from_slice_get entries j y.0 x.0 y.1 in
    let there : is_in y.0.1.0 o.blocks ≡ true = subst (λ (e : Operand × BlockId). is_in e.1.0 o.blocks ≡ true) is_y (among j x.0 within) in
    let places : renamed_target o x.0.1 ≡ renamed_target o y.0.1 =
    ap (λ (e : Operand × BlockId). e.1) (sym at_x) ∙ same ∙ ap (λ (e : Operand × BlockId). e.1) at_y in
    let number : x.0.1.0 ≡ y.0.1.0 = same_place o.blocks y.0.1.0 x.0.1.0 there (ap (λ (b : BlockId). b.0) places) in
    let block : x.0.1 ≡ y.0.1 = block_of x.0.1 y.0.1 number in
    let operands : (slice_index_or entries i x.0).0 ≡ (slice_index_or entries j x.0).0 =
    pairs i j x.0 l within (ap (λ (e : Operand × BlockId). e.1) is_x ∙ block ∙ sym (ap (λ (e : Operand × BlockId). e.1) is_y)) in
    ap (λ (e : Operand × BlockId). e.0) at_x
    ∙ ap (renamed_operand o) (sym (ap (λ (e : Operand × BlockId). e.0) is_x) ∙ operands ∙ ap (λ (e : Operand × BlockId). e.0) is_y)
    ∙ sym (ap (λ (e : Operand × BlockId). e.0) at_y)
  where
    block_of : (a b : BlockId) → a.0 ≡ b.0 → a ≡ b
    block_of a b e = ap (λ n. record { 0 = n }) e

module _ (f : Function) (keeps : ℕ → Bool) (h : MayBeNumbered f keeps) where
  abbrev o : Order
  o = text_order f keeps

  edges_kept : (from to : ℕ) → is_in from o.blocks ≡ true → is_in to o.blocks ≡ true →
      edge_count (numbered f keeps) (place_among o.blocks from) (place_among o.blocks to) ≡ edge_count f from to
  edges_kept from to there there' =
      let within = kept_number f keeps from there in
      let block = stands_within f.blocks from within.within in
      ap (λ found. edges_of found (place_among o.blocks to)) (block_there o f (covers_kept f keeps h) from block.0 there block.1)
      ∙ ap (count_by (λ (t : BlockId). nat_eq t.0 (place_among o.blocks to))) (targets_renamed o block.0.term)
      ∙ count_map (λ (t : BlockId). nat_eq t.0 (place_among o.blocks to)) (λ (t : BlockId). nat_eq t.0 to) (renamed_target o)
      (λ t. place_test o.blocks to t.0 there') (targets block.0.term)
      ∙ ap (λ found. edges_of found to) (sym block.1)

  pub count_of_blocks : length (numbered f keeps).blocks ≡ length o.blocks
  count_of_blocks = length-map (at_places f.blocks o.blocks) (renamed_block o)
      ∙ length-at_places f.blocks o.blocks (λ n t. (kept_number f keeps n t).within)

  edges_past : (from to : ℕ) → length o.blocks ≤ from → edge_count (numbered f keeps) from to ≡ 0
  edges_past from to l =
      let count = count_of_blocks in
      ap (λ found. edges_of found to) (slice_get_past (numbered f keeps).blocks from (omega arith))

  entry_targets : (p : Phi) (to : ℕ) → is_in to o.blocks ≡ true →
      count_by (λ (e : Operand × BlockId). nat_eq e.1.0 (place_among o.blocks to)) (map (renamed_entry o) p.entries)
      ≡ count_by (λ (e : Operand × BlockId). nat_eq e.1.0 to) p.entries
  entry_targets p to there =
      count_map (λ (e : Operand × BlockId). nat_eq e.1.0 (place_among o.blocks to)) (λ (e : Operand × BlockId). nat_eq e.1.0 to) (renamed_entry o)
      (λ e. place_test o.blocks to e.1.0 there) p.entries

  not_past : (e : Operand × BlockId) (from : ℕ) → length o.blocks ≤ from → is_in e.1.0 o.blocks ≡ true →
      nat_eq (place_among o.blocks e.1.0) from ≡ false
  not_past e from l there =
      let below = place_below o.blocks e.1.0 there in
      ne_eqb (place_among o.blocks e.1.0) from (λ s. omega (arith, s, below, l))

  phi_fits : (b : ℕ) → is_in b o.blocks ≡ true → (p : Phi) → KeptPhiFits f keeps b p → PhiFits (numbered f keeps) (place_among o.blocks b) (renamed_phi o p)
  phi_fits b there p fits = record {
    each_edge = λ from. elim (cases_lt from (length o.blocks)) [
      | inl l ↦
          let at = kept_at f keeps from l in
          let q : ℕ = at.number in
          subst (λ i. count_by (λ (e : Operand × BlockId). nat_eq e.1.0 i) (map (renamed_entry o) p.entries) ≡ edge_count (numbered f keeps) i (place_among o.blocks b)) at.is
          (entry_targets p q at.among ∙ fits.each_edge q (kept_number f keeps q at.among).kept ∙ sym (edges_kept q b at.among there))
      | inr l ↦
          count_none (λ (e : Operand × BlockId). nat_eq e.1.0 from) (renamed_entry o) p.entries (λ k d m. not_past (slice_index_or p.entries k d) from l (fits.kept k d m))
          ∙ sym (edges_past from (place_among o.blocks b) l)
    ];
    one_operand = pairs_kept o p.entries fits.kept fits.one_operand;
  }

  no_edge : (b : ℕ) → is_in b o.blocks ≡ true → ((from : ℕ) → keeps from ≡ true → edge_count f from b ≡ 0) →
      HasNoEdgeTo (numbered f keeps) (place_among o.blocks b)
  no_edge b there none from = elim (cases_lt from (length o.blocks)) [
    | inl l ↦
        let at = kept_at f keeps from l in
        subst (λ i. edge_count (numbered f keeps) i (place_among o.blocks b) ≡ 0) at.is
        (edges_kept at.number b at.among there ∙ none at.number (kept_number f keeps at.number at.among).kept)
    | inr l ↦ edges_past from (place_among o.blocks b) l
  ]

  block_fits : KeptPhisFit f keeps → (b : ℕ) → is_in b o.blocks ≡ true → PhisFitIn (numbered f keeps) (place_among o.blocks b)
  block_fits fits b there =
      let kept = kept_number f keeps b there in
      let block = stands_within f.blocks b kept.within in
      let first = first_place o f (covers_kept f keeps h) in
      record {
        phis = subst (λ found. IfSome found (λ x. All (PhiFits (numbered f keeps) (place_among o.blocks b)) x.phis))
            (sym (block_there o f (covers_kept f keeps h) b block.0 there block.1))
            (all_renamed (KeptPhiFits f keeps b) (λ p. Unit {0}) (PhiFits (numbered f keeps) (place_among o.blocks b)) (renamed_phi o)
            (λ p fit t. phi_fits b there p fit) block.0.phis (fits.phis b block.0 kept.kept block.1) (λ k d l. tt));
        entry = λ e. no_edge b there (λ from k.
            subst (λ to. edge_count f from to ≡ 0) (sym (same_place o.blocks first_block b first.0 (e ∙ sym first.1))) (fits.entry from k));
      }

  pub phis_fit : KeptPhisFit f keeps → PhisFit (numbered f keeps)
  phis_fit fits i l =
      let count = count_of_blocks in
      let at = kept_at f keeps i (omega arith) in
      subst (PhisFitIn (numbered f keeps)) at.is (block_fits fits at.number at.among)
