-- The edges and walks of what is left: they are edges and walks of the function, over blocks that are left and lines that are met.
use Rattle.std.proofs.Common.{◌≡◌, ◌≤◌, ℕ, zero, suc, ◌+◌, Bool, true, false, nat_eq, Option, Some, None, List, [], ◌∷◌, map, length, slice_get, refl, sym, ap, ◌∙◌, subst, arith}
use Rattle.std.specs.Prelude.{count_by}
use Rattle.std.proofs.lemmas.Bool.{eqb-true, eqb-false}
use Rattle.std.proofs.lemmas.Option.{same_Some}
use Rattle.vfa_ir.specs.declared.functions.Block.{Block}
use Rattle.vfa_ir.specs.declared.functions.Function.{Function}
use Rattle.vfa_ir.specs.Defined.{line_count}
use Rattle.vfa_ir.specs.PhisFit.{targets, edge_count}
use Rattle.vfa_ir.specs.Walks.{IsEdge, IsWalk, is_in}
use Rattle.vfa_mean.specs.Moments.{At}
use Rattle.vfa_mean.specs.Outcomes.{first_block}
use Rattle.vfa_rewrite.specs.Findings.{Findings, AreFitting}
use Rattle.vfa_rewrite.specs.Marks.{Reached, first, next}
use Rattle.vfa_rewrite.specs.Rewritten.{Marks, with_numbers, shrunk, term_if_met, edges_from, if_reached, edges_of, rewritten_block, emptied, if_block_left, block_left, rewritten}
use Rattle.vfa_rewrite.proofs.LeftLines.{Known}
use Rattle.vfa_rewrite.proofs.TargetsLeft.{count_is, leads_to, in_tally, tally_in, IsLeftEdge, some_edge, edge_counts, fewer_edges, shrunk_counts}

-- ---- edges of any function

abbrev targets_in : Option Block → List ℕ
targets_in o = elim o [ None ↦ [] | Some block ↦ map (λ t. t.0) (targets block.term) ]

abbrev count_in : ℕ → Option Block → ℕ
count_in to o = elim o [ None ↦ 0 | Some block ↦ count_by (λ t. nat_eq t.0 to) (targets block.term) ]

pub edge_is_counted : (g : Function) (from to : ℕ) → IsEdge g from to → edge_count g from to ≡ 0 → ⊥
edge_is_counted g from to = by (slice_get g.blocks from)
  where
    by : (o : Option Block) → is_in to (targets_in o) ≡ true → count_in to o ≡ 0 → ⊥
    by None t z = absurd (cc)
    by (Some block) t z = in_tally to (targets block.term) t (sym (count_is (leads_to to) (targets block.term)) ∙ z)

pub counted_is_edge : (g : Function) (from to : ℕ) → (edge_count g from to ≡ 0 → ⊥) → IsEdge g from to
counted_is_edge g from to = by (slice_get g.blocks from)
  where
    by : (o : Option Block) → (count_in to o ≡ 0 → ⊥) → is_in to (targets_in o) ≡ true
    by None some = absurd (some refl)
    by (Some block) some = tally_in to (targets block.term) (λ z. some (count_is (leads_to to) (targets block.term) ∙ z))

-- ---- blocks made with their numbers

abbrev left_in : Function → Marks → ℕ → Option Block → Option Block
left_in f m b o = elim o [ None ↦ None | Some block ↦ Some (block_left f m b block) ]

blocks_or : (f : Function) (m : Marks) (n k i : ℕ) (blocks : List Block) → k ≡ n + i →
    slice_get (with_numbers (block_left f m) n blocks) i ≡ elim (slice_get blocks i) [ None ↦ None | Some block ↦ Some (block_left f m k block) ]
blocks_or f m n k i [] e = refl
blocks_or f m n k zero (c ∷ blocks) e = let same : n ≡ k = omega (arith, e) in ap (λ j. Some (block_left f m j c)) same
blocks_or f m n k (suc i) (c ∷ blocks) e = blocks_or f m (suc n) k i blocks (omega (arith, e))

pub block_or : (f : Function) (m : Marks) (b : ℕ) →
    slice_get (rewritten f m).blocks b ≡ elim (slice_get f.blocks b) [ None ↦ None | Some block ↦ Some (block_left f m b block) ]
block_or f m b = blocks_or f m 0 b b f.blocks (omega arith)

pub block_at : (f : Function) (m : Marks) (b : ℕ) (block : Block) → slice_get f.blocks b ≡ Some block → slice_get (rewritten f m).blocks b ≡ Some (block_left f m b block)
block_at f m b block there = block_or f m b ∙ ap (left_in f m b) there

pub reached_block : (f : Function) (m : Marks) (b : ℕ) (block : Block) → m.reached b ≡ true → block_left f m b block ≡ rewritten_block f m b block
reached_block f m b block r = ap (λ t. if_block_left t (rewritten_block f m b block) (emptied block)) r

pub record IsLeftBlock (f : Function) (m : Marks) (b : ℕ) (block' : Block) : Type 0 where
  pub block : Block
  pub there : slice_get f.blocks b ≡ Some block
  pub is : block_left f m b block ≡ block'

pub left_block : (f : Function) (m : Marks) (b : ℕ) (block' : Block) → slice_get (rewritten f m).blocks b ≡ Some block' → IsLeftBlock f m b block'
left_block f m b block' e = here (slice_get f.blocks b) refl (sym (block_or f m b) ∙ e)
  where
    here : (o : Option Block) → slice_get f.blocks b ≡ o → elim o [ None ↦ None | Some block ↦ Some (block_left f m b block) ] ≡ Some block' → IsLeftBlock f m b block'
    here None k e = absurd (cc)
    here (Some block) k e = record { block = block; there = k; is = same_Some (block_left f m b block) block' e }

-- ---- places before one that is met are met

abbrev lines_in : Option Block → ℕ
lines_in o = elim o [ None ↦ 0 | Some block ↦ length block.insts ]

pub met_up_to : (f : Function) (found : Findings) → AreFitting f found → (b : ℕ) (block : Block) → slice_get f.blocks b ≡ Some block → (i j : ℕ) → i ≤ length block.insts → j ≤ i →
    found.met b i ≡ true → found.met b j ≡ true
met_up_to f found fits b block there zero j within l met = let z : j ≡ 0 = omega (arith, l) in subst (λ k. found.met b k ≡ true) (sym z) met
met_up_to f found fits b block there (suc i) j within l met = by (nat_eq j (suc i)) refl (λ k. met_up_to f found fits b block there i j (omega (arith, within)) k earlier)
  where
    count : line_count f b ≡ length block.insts
    count = ap lines_in there

    earlier : found.met b i ≡ true
    earlier = fits.met_before b i (let c = count in omega (arith, within, c)) met

    less : (j ≡ suc i → ⊥) → j ≤ i
    less a = omega (arith, l, a)

    by : (t : Bool) → nat_eq j (suc i) ≡ t → (j ≤ i → found.met b j ≡ true) → found.met b j ≡ true
    by true e again = let s = eqb-true j (suc i) e in subst (λ k. found.met b k ≡ true) (sym s) met
    by false e again = again (less (eqb-false j (suc i) e))

module _ (f : Function) (found : Findings) (m : Marks) (known : Known f found m) where
  -- ---- edges

  pub count_of : (b : ℕ) (block : Block) → slice_get f.blocks b ≡ Some block → line_count f b ≡ length block.insts
  count_of b block there = ap lines_in there

  abbrev left_from : ℕ → ℕ → Option Block → ℕ
  left_from to from o = elim o [ None ↦ 0 | Some block ↦ edges_from (m.left from) to 0 (targets block.term) ]

  -- an edge that is left leads from a block that is left and whose terminator is met
  pub record IsEdgeLeft (from to : ℕ) : Type 0 where
    pub block : Block
    pub there : slice_get f.blocks from ≡ Some block
    pub reached : m.reached from ≡ true
    pub met : m.met from (length block.insts) ≡ true
    pub edge : IsLeftEdge (m.left from) to 0 (targets block.term)

  -- the terminator of a block one of whose edges is left is met
  edge_met : (from to : ℕ) (block : Block) → slice_get f.blocks from ≡ Some block → IsLeftEdge (m.left from) to 0 (targets block.term) → m.met from (length block.insts) ≡ true
  edge_met from to block there e =
      known.marks.met from (length block.insts)
      ∙ subst (λ n. found.met from n ≡ true) (count_of from block there) (known.fits.left_behind from (0 + e.place) (sym (known.marks.left from (0 + e.place)) ∙ e.left_there))

  pub edge_left : (from to : ℕ) → (edges_of f m to from ≡ 0 → ⊥) → IsEdgeLeft from to
  edge_left from to = by (m.reached from) (slice_get f.blocks from) refl refl
    where
      by : (r : Bool) (o : Option Block) → m.reached from ≡ r → slice_get f.blocks from ≡ o → (if_reached r (left_from to from o) ≡ 0 → ⊥) → IsEdgeLeft from to
      by false o e k some = absurd (some refl)
      by true None e k some = absurd (some refl)
      by true (Some block) e k some =
          let edge = some_edge (m.left from) to 0 (targets block.term) some in
          record { block = block; there = k; reached = e; met = edge_met from to block k edge; edge = edge }

  pub edges_count : (from to : ℕ) → edge_count (rewritten f m) from to ≡ edges_of f m to from
  edges_count from to = ap (count_in to) (block_or f m from) ∙ by (slice_get f.blocks from) refl
    where
      none_met : (block : Block) → slice_get f.blocks from ≡ Some block → m.met from (length block.insts) ≡ false → (n : ℕ) → edges_from (m.left from) to 0 (targets block.term) ≡ n → 0 ≡ n
      none_met block there unmet zero e = refl
      none_met block there unmet (suc n) e =
          let edge = some_edge (m.left from) to 0 (targets block.term) (λ z. let s : 0 ≡ suc n = sym z ∙ e in omega (arith, s)) in
          absurd (let met = edge_met from to block there edge in cc)

      of_term : (block : Block) → slice_get f.blocks from ≡ Some block → (t : Bool) → m.met from (length block.insts) ≡ t →
          count_by (λ t. nat_eq t.0 to) (targets (term_if_met t (shrunk (m.put (At from (length block.insts))) (m.left from) block.term))) ≡ edges_from (m.left from) to 0 (targets block.term)
      of_term block there true e =
          count_is (leads_to to) (targets (shrunk (m.put (At from (length block.insts))) (m.left from) block.term))
          ∙ shrunk_counts (m.put (At from (length block.insts))) (m.left from) to block.term
      of_term block there false e = none_met block there e (edges_from (m.left from) to 0 (targets block.term)) refl

      of_block : (block : Block) → slice_get f.blocks from ≡ Some block → (r : Bool) →
          count_by (λ t. nat_eq t.0 to) (targets (if_block_left r (rewritten_block f m from block) (emptied block)).term) ≡ if_reached r (edges_from (m.left from) to 0 (targets block.term))
      of_block block there true = of_term block there (m.met from (length block.insts)) refl
      of_block block there false = refl

      no_edges : (r : Bool) → 0 ≡ if_reached r 0
      no_edges true = refl
      no_edges false = refl

      by : (o : Option Block) → slice_get f.blocks from ≡ o → count_in to (left_in f m from o) ≡ if_reached (m.reached from) (left_from to from o)
      by None e = no_edges (m.reached from)
      by (Some block) e = of_block block e (m.reached from)

  pub no_more_edges : (from to : ℕ) → edges_of f m to from ≤ edge_count f from to
  no_more_edges from to = by (m.reached from) (slice_get f.blocks from)
    where
      by : (r : Bool) (o : Option Block) → if_reached r (left_from to from o) ≤ count_in to o
      by false None = omega arith
      by false (Some block) = omega arith
      by true None = omega arith
      by true (Some block) =
          let l = fewer_edges (m.left from) to 0 (targets block.term) in
          let c = count_is (leads_to to) (targets block.term) in
          omega (arith, l, c)

  -- an edge of what is left
  pub is_edge_left : (from to : ℕ) → IsEdge (rewritten f m) from to → IsEdgeLeft from to
  is_edge_left from to e = edge_left from to (λ z. edge_is_counted (rewritten f m) from to e (edges_count from to ∙ z))

  pub edge_was : (from to : ℕ) → IsEdge (rewritten f m) from to → IsEdge f from to
  edge_was from to e = counted_is_edge f from to (λ z.
      edge_is_counted (rewritten f m) from to e (let l = no_more_edges from to in let c = edges_count from to in omega (arith, l, c, z)))

  pub target_reached : (from to : ℕ) → IsEdgeLeft from to → m.reached to ≡ true
  target_reached from to e =
      subst (λ k. m.reached k ≡ true) e.edge.same
      ((known.marks.reached e.edge.to.0).1
      (next from e.block e.edge.place e.edge.to ((known.marks.reached from).0 e.reached) e.there e.edge.there
      (sym (known.marks.left from e.edge.place) ∙ (let z : e.edge.place ≡ 0 + e.edge.place = omega arith in ap (m.left from) z ∙ e.edge.left_there))))

  -- ---- walks

  pub same_walk : (w : List ℕ) → IsWalk (rewritten f m) w → IsWalk f w
  same_walk [] h = h
  same_walk (b ∷ []) h = h
  same_walk (b ∷ (from ∷ rest)) h = (edge_was from b h.0, same_walk (from ∷ rest) h.1)

  pub reached_on : (b : ℕ) (passed : List ℕ) → IsWalk (rewritten f m) (b ∷ passed) → m.reached b ≡ true
  reached_on b [] h = subst (λ k. m.reached k ≡ true) (sym h) ((known.marks.reached first_block).1 first)
  reached_on b (from ∷ rest) h = target_reached from b (is_edge_left from b h.0)

  pub record IsWalkedTo (b : ℕ) : Type 0 where
    pub passed : List ℕ
    pub walk : IsWalk (rewritten f m) (b ∷ passed)

  to_reached : (b : ℕ) → Reached f found b → IsWalkedTo b
  to_reached b first = record { passed = []; walk = refl }
  to_reached b (next c block k to r there leads left) =
      let before = to_reached c r in
      let reached = (known.marks.reached c).1 r in
      let is_left : m.left c (0 + k) ≡ true = let z : 0 + k ≡ k = omega arith in ap (m.left c) z ∙ known.marks.left c k ∙ left in
      let some : edges_of f m to.0 c ≡ 0 → ⊥ = λ z. edge_counts (m.left c) 0 (targets block.term) k to leads is_left (sym (counted c block to.0 there reached) ∙ z) in
      record { passed = c ∷ before.passed; walk = (counted_is_edge (rewritten f m) c to.0 (λ z. some (sym (edges_count c to.0) ∙ z)), before.walk) }
    where
      counted : (c : ℕ) (block : Block) (to : ℕ) → slice_get f.blocks c ≡ Some block → m.reached c ≡ true → edges_of f m to c ≡ edges_from (m.left c) to 0 (targets block.term)
      counted c block to there reached = ap (λ r. if_reached r (left_from to c (slice_get f.blocks c))) reached ∙ ap (left_from to c) there

  pub walk_to : (b : ℕ) → m.reached b ≡ true → IsWalkedTo b
  walk_to b r = to_reached b ((known.marks.reached b).0 r)

  -- ---- lines that are met

  pub met_earlier : (b : ℕ) (block : Block) (i j : ℕ) → slice_get f.blocks b ≡ Some block → i ≤ length block.insts → j ≤ i → m.met b i ≡ true → m.met b j ≡ true
  met_earlier b block i j there within l met =
      known.marks.met b j ∙ met_up_to f found known.fits b block there i j within l (sym (known.marks.met b i) ∙ met)
