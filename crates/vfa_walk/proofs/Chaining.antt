-- Chains of edges: how they are made, and what is joined along them.
use Rattle.std.proofs.Common.{◌≡◌, ◌<◌, ◌≤◌, ◌+◌, ◌⊎◌, ℕ, zero, suc, Bool, true, false, ◌||◌, nat_eq, if◌then◌else◌, Option, Some, None, List, [], ◌∷◌, take, drop, map, replicate, set, length, get_or, refl, sym, ◌∙◌, ap, subst, arith, eqb-true, eq-eqb, length-set, inl, inr}
use Rattle.std.specs.Prelude.{slice_get}
use Rattle.std.specs.Option.{option_map}
use Rattle.std.proofs.lemmas.Bool.{cases_lt}
use Rattle.std.proofs.lemmas.Bool.Decides.{nat_tests}
use Rattle.std.proofs.lemmas.List.{drop-drop, drop-map, drop_all, length-replicate, get_or-replicate}
use Rattle.std.proofs.lemmas.Option.{slice_get-map, slice_get-get_or, slice_get_within, get_or_from_slice_get}
use Rattle.vfa_ir.specs.declared.functions.Block.{Block}
use Rattle.vfa_ir.specs.declared.functions.Function.{Function}
use Rattle.vfa_ir.specs.Walks.{is_in, successors}
use Rattle.vfa_cfg.specs.declared.listing.Edge.{Edge}
use Rattle.vfa_cfg.specs.Edges.{block_edges}
use Rattle.vfa_cfg.proofs.Members.{or_left, or_right}
use Rattle.vfa_values.specs.Answers.{Answers}
use Rattle.vfa_cond.specs.States.{AbstractState}
use Rattle.vfa_walk.specs.Chains.{AreChains, first_to}
use Rattle.vfa_walk.specs.Joining.{joined}
use Rattle.vfa_walk.specs.Leaving.{along_way, along_edge, joined_edges, paired}
use Rattle.vfa_walk.specs.Passes.{merged}
use Rattle.vfa_walk.proofs.Edges.{edges_lead, from_get, leads_out, pair_begins, pair_more}
use Rattle.vfa_walk.proofs.PassEquations.{if_no, if_yes}

turned : (a b : ℕ) → nat_eq a b ≡ nat_eq b a
turned a b = grind (arith, nat_tests)

some_is : {A : Type 0} (x y : A) → Some x ≡ Some y → x ≡ y
some_is x y e = cc

-- ---- the first of some targets that is a block

pub first_stays : (to : ℕ) (list : List ℕ) → first_to to (drop (first_to to list) list) ≡ 0
first_stays to [] = refl
first_stays to (x ∷ list) = at (nat_eq x to) refl (first_stays to list)
  where
    at : (same : Bool) → nat_eq x to ≡ same → first_to to (drop (first_to to list) list) ≡ 0 → first_to to (drop (if same then 0 else suc (first_to to list)) (x ∷ list)) ≡ 0
    at true e later = ap (λ b. if b then 0 else suc (first_to to list)) e
    at false e later = later

first_is : (to x : ℕ) (list : List ℕ) → first_to to (x ∷ list) ≡ 0 → nat_eq x to ≡ true
first_is to x list = at (nat_eq x to) refl
  where
    at : (same : Bool) → nat_eq x to ≡ same → (if same then 0 else suc (first_to to list)) ≡ 0 → nat_eq x to ≡ true
    at true e h = e
    at false e h = absurd (omega (arith, h))

neither : (a b : Bool) → a ≡ false → b ≡ false → (a || b) ≡ false
neither true b e h = absurd (cc)
neither false b e h = h

none_before : (to : ℕ) (list : List ℕ) → is_in to (take (first_to to list) list) ≡ false
none_before to [] = refl
none_before to (x ∷ list) = at (nat_eq x to) refl (none_before to list)
  where
    at : (same : Bool) → nat_eq x to ≡ same → is_in to (take (first_to to list) list) ≡ false → is_in to (take (if same then 0 else suc (first_to to list)) (x ∷ list)) ≡ false
    at true e later = refl
    at false e later = neither (nat_eq to x) (is_in to (take (first_to to list) list)) (turned to x ∙ e) later

some_before : (to : ℕ) (list : List ℕ) (k : ℕ) → slice_get list k ≡ Some to → (first_to to list ≡ k → ⊥) → is_in to (take k list) ≡ true
some_before to [] k there other = absurd (cc)
some_before to (x ∷ list) zero there other =
    absurd (other (ap (λ b. if b then 0 else suc (first_to to list)) (eq-eqb x to (some_is x to there))))
some_before to (x ∷ list) (suc k) there other = at (nat_eq x to) refl (some_before to list k there)
  where
    at : (same : Bool) → nat_eq x to ≡ same → ((first_to to list ≡ k → ⊥) → is_in to (take k list) ≡ true) → is_in to (take (suc k) (x ∷ list)) ≡ true
    at true e later = or_left (nat_eq to x) (is_in to (take k list)) (turned to x ∙ e)
    at false e later =
        or_right (nat_eq to x) (is_in to (take k list))
        (later (λ h. other (ap (λ b. if b then 0 else suc (first_to to list)) e ∙ ap suc h)))

-- ---- how chains are made, from the last edge to the first

-- the chains of the edges from this number on
pub record AreChainsFrom (k : ℕ) (targets first next : List ℕ) : Type 0 where
  pub firsts : (b : ℕ) → b < length first → slice_get first b ≡ Some (k + first_to b (drop k targets))
  pub nexts : (j b : ℕ) → k ≤ j → b < length first → slice_get targets j ≡ Some b → slice_get next j ≡ Some ((j + 1) + first_to b (drop (j + 1) targets))
  pub edges : length next ≡ length targets

slice_set_same : (list : List ℕ) (i x : ℕ) → i < length list → slice_get (set list i x) i ≡ Some x
slice_set_same [] i x inside = absurd (omega arith)
slice_set_same (y ∷ list) zero x inside = refl
slice_set_same (y ∷ list) (suc i) x inside = slice_set_same list i x (omega arith)

slice_set_other : (list : List ℕ) (i j x : ℕ) → (j ≡ i → ⊥) → slice_get (set list i x) j ≡ slice_get list j
slice_set_other [] i j x other = refl
slice_set_other (y ∷ list) zero zero x other = absurd (other refl)
slice_set_other (y ∷ list) zero (suc j) x other = refl
slice_set_other (y ∷ list) (suc i) zero x other = refl
slice_set_other (y ∷ list) (suc i) (suc j) x other = slice_set_other list i j x (λ e. other (ap suc e))

pub no_chains : (targets first next : List ℕ) (edges blocks : ℕ) → edges ≡ length targets → first ≡ replicate blocks edges → next ≡ replicate edges edges →
    AreChainsFrom edges targets first next
no_chains targets first next edges blocks count first_are next_are = record {
  firsts = λ b inside.
      let below : b < blocks = subst (λ n. b < n) (ap length first_are ∙ length-replicate blocks edges) inside in
      let none : drop edges targets ≡ [] = drop_all edges targets (omega arith) in
      ap (λ list. slice_get list b) first_are
      ∙ (slice_get-get_or (replicate blocks edges) b 0 (subst (λ n. b < n) (sym (length-replicate blocks edges)) below)
      ∙ (ap Some (get_or-replicate blocks b edges 0 below)
      ∙ (let e : edges ≡ edges + 0 = omega arith in ap Some e ∙ ap (λ list. Some (edges + first_to b list)) (sym none))));
  nexts = λ j b past inside there. let within = slice_get_within targets j b there in absurd (omega (arith, past, within, count));
  edges = ap length next_are ∙ (length-replicate edges edges ∙ count);
}

module _ (targets first next : List ℕ) (k to : ℕ) (there : slice_get targets k ≡ Some to) (sofar : AreChainsFrom (k + 1) targets first next) where
  from_here : drop k targets ≡ to ∷ drop (k + 1) targets
  from_here = from_get targets k to there

  first_in : (b : ℕ) → b < length first → (same : Bool) → nat_eq b to ≡ same → slice_get (set first to k) b ≡ Some (k + first_to b (drop k targets))
  first_in b inside true e =
      let is : b ≡ to = eqb-true b to e in
      ap (slice_get (set first to k)) is
      ∙ (slice_set_same first to k (subst (λ c. c < length first) is inside)
      ∙ (let z : k ≡ k + 0 = omega arith in ap Some z
      ∙ ap (λ n. Some (k + n)) (sym (ap (first_to b) from_here ∙ ap (λ c. if c then 0 else suc (first_to b (drop (k + 1) targets))) (turned to b ∙ e)))))
  first_in b inside false e =
      slice_set_other first to b k (λ is. let clash : true ≡ false = sym (eq-eqb b to is) ∙ e in cc)
      ∙ (sofar.firsts b inside
      ∙ (let z : (k + 1) + first_to b (drop (k + 1) targets) ≡ k + suc (first_to b (drop (k + 1) targets)) = omega arith in ap Some z
      ∙ ap (λ n. Some (k + n)) (sym (ap (first_to b) from_here ∙ ap (λ c. if c then 0 else suc (first_to b (drop (k + 1) targets))) (turned to b ∙ e)))))

  next_in : (j b : ℕ) → k ≤ j → b < length first → slice_get targets j ≡ Some b → (k < j) ⊎ (j ≤ k) →
      slice_get (set next k (get_or first to 0)) j ≡ Some ((j + 1) + first_to b (drop (j + 1) targets))
  next_in j b from inside leads (inl behind) =
      slice_set_other next k j (get_or first to 0) (λ e. omega (arith, e, behind)) ∙ sofar.nexts j b (omega (arith, behind)) inside leads
  next_in j b from inside leads (inr not_behind) =
      let here : j ≡ k = omega arith in
      let is : b ≡ to = some_is b to (sym leads ∙ (ap (slice_get targets) here ∙ there)) in
      let within : k < length next = subst (λ n. k < n) (sym sofar.edges) (slice_get_within targets k to there) in
      let old : get_or first to 0 ≡ (k + 1) + first_to to (drop (k + 1) targets) =
      get_or_from_slice_get first to _ 0 (sofar.firsts to (subst (λ c. c < length first) is inside)) in
      ap (slice_get (set next k (get_or first to 0))) here
      ∙ (slice_set_same next k (get_or first to 0) within
      ∙ (ap Some old
      ∙ (ap (λ c. Some ((k + 1) + first_to c (drop (k + 1) targets))) (sym is)
      ∙ ap (λ i. Some ((i + 1) + first_to b (drop (i + 1) targets))) (sym here))))

  pub chains_more : (first' next' : List ℕ) → first' ≡ set first to k → next' ≡ set next k (get_or first to 0) → AreChainsFrom k targets first' next'
  chains_more first' next' first_is next_is = record {
    firsts = λ b inside. ap (λ list. slice_get list b) first_is ∙ first_in b (below b inside) (nat_eq b to) refl;
    nexts = λ j b from inside leads. ap (λ list. slice_get list j) next_is ∙ next_in j b from (below b inside) leads (cases_lt k j);
    edges = ap length next_is ∙ (length-set next k (get_or first to 0) ∙ sofar.edges);
  }
    where
      below : (b : ℕ) → b < length first' → b < length first
      below b inside = subst (λ n. b < n) (ap length first_is ∙ length-set first to k) inside

pub all_chains : (targets first next : List ℕ) (k : ℕ) → k ≡ 0 → AreChainsFrom k targets first next → AreChains targets first next
all_chains targets first next k none sofar = at (subst (λ i. AreChainsFrom i targets first next) none sofar)
  where
    at : AreChainsFrom 0 targets first next → AreChains targets first next
    at all = record {
      firsts = λ b inside. all.firsts b inside ∙ (let z : 0 + first_to b targets ≡ first_to b targets = omega arith in ap Some z);
      nexts = λ j b inside there. all.nexts j b (omega arith) inside there;
    }

-- the first edge to a block, by its number
pub first_number : (targets first next : List ℕ) (to k : ℕ) → AreChains targets first next → slice_get first to ≡ Some k → k ≡ first_to to targets
first_number targets first next to k chains is = some_is k _ (sym is ∙ chains.firsts to (slice_get_within first to k is))

-- ---- what is joined along a chain

module _ {V : Type 0} (answers : Answers V) (f : Function) (to : ℕ) (s : AbstractState V) where
  -- edges before the first one to the block are passed over
  joined_from : (edges : List Edge) (sum : Option (AbstractState V)) →
      joined_edges answers f to s edges sum ≡ joined_edges answers f to s (drop (first_to to (map (λ e. e.to.0) edges)) edges) sum
  joined_from [] sum = refl
  joined_from (e ∷ rest) sum = at (nat_eq e.to.0 to) refl (joined_from rest sum)
    where
      at : (same : Bool) → nat_eq e.to.0 to ≡ same →
          joined_edges answers f to s rest sum ≡ joined_edges answers f to s (drop (first_to to (map (λ d. d.to.0) rest)) rest) sum →
          joined_edges answers f to s (e ∷ rest) sum ≡ joined_edges answers f to s (drop (if same then 0 else suc (first_to to (map (λ d. d.to.0) rest))) (e ∷ rest)) sum
      at true h later = refl
      at false h later =
          ap (joined_edges answers f to s rest) (if_no (nat_eq e.to.0 to) (merged (joined answers) sum (along_edge answers f e s)) sum h) ∙ later

module _ {V : Type 0} (answers : Answers V) (f : Function) (from to : ℕ) (block : Block) (is : slice_get f.blocks from ≡ Some block) (s : AbstractState V) where
  abbrev edges : List Edge
  edges = block_edges from block.term

  leads_are : map (λ e. e.to.0) edges ≡ successors f from
  leads_are = edges_lead from block.term ∙ sym (leads_out f from block is)

  pub chain_begins : (k : ℕ) → k ≡ first_to to (successors f from) →
      paired answers f from to s ≡ joined_edges answers f to s (drop k (block_edges from block.term)) None
  chain_begins k first =
      pair_begins answers f from to block is s
      ∙ (joined_from answers f to s edges None
      ∙ ap (λ n. joined_edges answers f to s (drop n edges) None) (ap (first_to to) leads_are ∙ sym first))

  pub leads_at : (k : ℕ) (e : Edge) → slice_get (block_edges from block.term) k ≡ Some e → slice_get (successors f from) k ≡ Some e.to.0
  leads_at k e at = ap (λ list. slice_get list k) (sym leads_are) ∙ (slice_get-map (λ d. d.to.0) edges k ∙ ap (option_map (λ d. d.to.0)) at)

  -- the edge at which the chain stands leads to the block
  pub leads_there : (k : ℕ) (e : Edge) → slice_get (block_edges from block.term) k ≡ Some e → first_to to (drop k (successors f from)) ≡ 0 → e.to.0 ≡ to
  leads_there k e at here =
      eqb-true e.to.0 to (first_is to e.to.0 (drop (k + 1) (successors f from)) (sym (ap (first_to to) (from_get (successors f from) k e.to.0 (leads_at k e at))) ∙ here))

  pub chain_more : (k after : ℕ) (e : Edge) (sum next : Option (AbstractState V)) → slice_get (block_edges from block.term) k ≡ Some e → e.from.0 ≡ from →
      first_to to (drop k (successors f from)) ≡ 0 → paired answers f from to s ≡ joined_edges answers f to s (drop k (block_edges from block.term)) sum →
      next ≡ merged (joined answers) sum (along_way answers f block.term e.way s) → after ≡ (k + 1) + first_to to (drop (k + 1) (successors f from)) →
      paired answers f from to s ≡ joined_edges answers f to s (drop after (block_edges from block.term)) next
  chain_more k after e sum next at begins here sofar step next_is =
      pair_more answers f from to block is s k e sum next at begins sofar
      (step ∙ sym (if_yes (nat_eq e.to.0 to) (merged (joined answers) sum (along_way answers f block.term e.way s)) sum (eq-eqb e.to.0 to (leads_there k e at here))))
      ∙ (joined_from answers f to s (drop (k + 1) edges) next
      ∙ (ap (λ list. joined_edges answers f to s list next) (drop-drop (first_to to (map (λ d. d.to.0) (drop (k + 1) edges))) (k + 1) edges)
      ∙ ap (λ n. joined_edges answers f to s (drop n edges) next) (ap (λ list. (k + 1) + first_to to list) behind ∙ sym next_is)))
    where
      behind : map (λ d. d.to.0) (drop (k + 1) edges) ≡ drop (k + 1) (successors f from)
      behind = sym (drop-map (λ d. d.to.0) (k + 1) edges) ∙ ap (drop (k + 1)) leads_are

-- the chain stands at an edge to the block again, or behind all edges
pub stands_again : (to k after : ℕ) (targets : List ℕ) → after ≡ (k + 1) + first_to to (drop (k + 1) targets) → first_to to (drop after targets) ≡ 0
stands_again to k after targets is =
    ap (λ n. first_to to (drop n targets)) is
    ∙ (ap (first_to to) (sym (drop-drop (first_to to (drop (k + 1) targets)) (k + 1) targets)) ∙ first_stays to (drop (k + 1) targets))

-- what follows an edge in its chain
pub next_is : (targets first next : List ℕ) (k to after : ℕ) → AreChains targets first next → to < length first → slice_get targets k ≡ Some to →
    slice_get next k ≡ Some after → after ≡ (k + 1) + first_to to (drop (k + 1) targets)
next_is targets first next k to after chains inside there is = some_is after _ (sym is ∙ chains.nexts k to inside there)

-- ---- the first edge to a block

module _ {S : Type 0} (targets first next : List ℕ) (chains : AreChains targets first next) (k to b : ℕ) (there : slice_get targets k ≡ Some to) where
  pub given_first : slice_get first to ≡ Some k → (new x y : Option S) → new ≡ (if nat_eq b to then x else y) →
      new ≡ (if is_in to (take k targets) then y else if nat_eq b to then x else y)
  given_first is new x y step =
      step ∙ sym (if_no (is_in to (take k targets)) y (if nat_eq b to then x else y) (ap (λ n. is_in to (take n targets)) (sym same) ∙ none_before to targets))
    where
      same : first_to to targets ≡ k
      same = sym (first_number targets first next to k chains is)

  pub given_before : (slice_get first to ≡ Some k → ⊥) → b < length first → (x y : Option S) → y ≡ (if is_in to (take k targets) then y else if nat_eq b to then x else y)
  given_before other inside x y = at (cases_lt to (length first))
    where
      same : (c : Bool) → y ≡ (if c then y else y)
      same true = refl
      same false = refl

      at : (to < length first) ⊎ (length first ≤ to) → y ≡ (if is_in to (take k targets) then y else if nat_eq b to then x else y)
      at (inl below) =
          sym (if_yes (is_in to (take k targets)) y (if nat_eq b to then x else y)
          (some_before to targets k there (λ e. other (chains.firsts to below ∙ ap Some e))))
      at (inr past) =
          let apart : nat_eq b to ≡ false = grind (arith, nat_tests) in
          same (is_in to (take k targets)) ∙ ap (λ z. if is_in to (take k targets) then y else z) (sym (if_no (nat_eq b to) x y apart))
