-- What holds all along the search, through each step.
use Rattle.std.proofs.Common.{◌≡◌, ℕ, ◌+◌, ◌<◌, ◌≤◌, Bool, true, false, not, ◌&&◌, ◌||◌, cond, nat_eq, List, [], ◌∷◌, ◌++◌, length, get_or, take, map, flat_map, set, All, refl, sym, ap, ◌∙◌, subst, inl, inr, ◌⊎◌, arith, Some, None}
use Rattle.std.specs.List.{slice_get, list_any}
use Rattle.std.proofs.lemmas.Bool.{eq-eqb}
use Rattle.std.proofs.lemmas.Bool.Decides.{eqb_tells}
use Rattle.std.proofs.lemmas.List.{take_more, take_all, map_more, get_or-set_same, get_or-set_other}
use Rattle.std.proofs.lemmas.List.Concat.{flat_map-cons}
use Rattle.std.proofs.lemmas.List.Elements.{All-nil, All-cons}
use Rattle.std.proofs.lemmas.Option.{slice_get_within, get_or_from_slice_get}
use Rattle.vfa_ir.specs.declared.functions.Function.{Function}
use Rattle.vfa_ir.specs.declared.operations.BlockId.{BlockId}
use Rattle.vfa_ir.specs.Walks.{is_in, is_parameter, results_in, successors}
use Rattle.vfa_cfg.specs.Order.{numbers}
use Rattle.vfa_cfg.proofs.Marks.{none_is_past}
use Rattle.vfa_cfg.proofs.Members.{bool_cases, false_is_no_truth, and_left, and_right, not_true, in_cases, in_from_place, first_or_rest}
use Rattle.vfa_ir.specs.Printable.{ids_of, block_ids}
use Rattle.vfa_check.proofs.Adding.{all_left, all_right}
use Rattle.vfa_check.specs.NameRows.{has_at}
use Rattle.vfa_check.specs.declared.flow.Flow.{Flow}
use Rattle.vfa_check.specs.Flow.{is_sent, sent_edges, weight, IsFlow, IsMissedBefore, IsMissedBehind, IsNarrowed, IsRenewed, IsSettled}

pub not_not : (b : Bool) → b ≡ false → not b ≡ true
not_not true e = absurd (cc)
not_not false e = refl

pub or_parts : (a b : Bool) → (a || b) ≡ false → (a ≡ false) × (b ≡ false)
or_parts true b h = absurd (cc)
or_parts false b h = (refl, h)

and_parts : (a b : Bool) → (a && b) ≡ false → (a ≡ false) ⊎ (b ≡ false)
and_parts true b h = inr h
and_parts false b h = inl refl

-- a flow along some edges is one along fewer
pub along_fewer : (f : Function) (edges fewer : ℕ → List ℕ) (s : Flow) → ((b to : ℕ) → is_in to (fewer b) ≡ true → is_in to (edges b) ≡ true) →
    IsFlow f edges s → IsFlow f fewer s
along_fewer f edges fewer s less w = record {
  shape = w.shape;
  parameters = w.parameters;
  sent = λ b to v marked edge has. w.sent b to v marked (less b to edge) has;
  made = w.made;
  lost_before = w.lost_before;
  lost_behind = w.lost_behind;
}

-- a walk on which a name is missed behind a block goes on to each successor
goes_on : (f : Function) (from to v : ℕ) → is_in to (successors f from) ≡ true → IsMissedBehind f from v → IsMissedBefore f to v
goes_on f from to v edge m = record { passed = from ∷ m.passed; walk = (edge, m.walk); missed = m.missed }

is_in-none : (t : ℕ) (xs : List ℕ) → is_in t (take 0 xs) ≡ false
is_in-none t [] = refl
is_in-none t (x ∷ xs) = refl

and_true : (a : Bool) → (a && true) ≡ a
and_true true = refl
and_true false = refl

or_both : (a b : Bool) → a ≡ false → b ≡ false → (a || b) ≡ false
or_both true b e g = absurd (cc)
or_both false b e g = g

missed_behind : (f : Function) (b v : ℕ) → is_in v (results_in f b) ≡ false → IsMissedBefore f b v → IsMissedBehind f b v
missed_behind f b v none m =
    let parts = or_parts (is_parameter f v) (list_any (λ c. is_in v (results_in f c)) m.passed) m.missed in
    record {
      passed = m.passed;
      walk = m.walk;
      missed = or_both (is_parameter f v) (list_any (λ c. is_in v (results_in f c)) (b ∷ m.passed)) parts.0
          (or_both (is_in v (results_in f b)) (list_any (λ c. is_in v (results_in f c)) m.passed) none parts.1);
    }

marked_after : (now new : Flow) (to : ℕ) (lost : Bool) → to < length now.unsent.items →
    (lost ≡ false → new.unsent.items ≡ now.unsent.items) → (lost ≡ true → new.unsent.items ≡ set now.unsent.items to true) →
    (b : ℕ) → is_sent new b ≡ true → (is_sent now b ≡ true) × ((b ≡ to) → lost ≡ false)
marked_after now new to lost within same set_mark b h = elim (bool_cases lost) [
  | inl t ↦
      let mark : get_or new.unsent.items b true ≡ get_or (set now.unsent.items to true) b true = ap (λ xs. get_or xs b true) (set_mark t) in
      let off : get_or new.unsent.items b true ≡ false = not_true (get_or new.unsent.items b true) h in
      elim (eqb_tells b to) [
        | inl e ↦
            let on : get_or (set now.unsent.items to true) b true ≡ true =
            subst (λ c. get_or (set now.unsent.items to true) c true ≡ true) (sym e.1) (get_or-set_same now.unsent.items to true true within) in
            absurd (false_is_no_truth {X = ⊥} on (sym mark ∙ off))
        | inr e ↦ (
          not_not (get_or now.unsent.items b true) (sym (get_or-set_other now.unsent.items to b true true e.1) ∙ sym mark ∙ off),
          λ q. absurd (e.1 q),
        )
      ]
  | inr e ↦ (subst (λ xs. not (get_or xs b true) ≡ true) (same e) h, λ q. e)
]

-- one more edge of the block
pub narrow_step : (f : Function) (edges more : ℕ → List ℕ) (from to : ℕ) (now new : Flow) (lost : Bool) →
    is_in to (successors f from) ≡ true → to < length f.blocks →
    ((b t : ℕ) → is_in t (more b) ≡ true → (is_in t (edges b) ≡ true) ⊎ ((b ≡ from) × (t ≡ to))) →
    IsFlow f edges now → IsNarrowed f from to now new lost → IsFlow f more new
narrow_step f edges more from to now new lost edge within one_more w n =
    let marks = marked_after now new to lost (omega (arith, w.shape.unsent)) n.sent n.unsent in
    let was : (b v : ℕ) → has_at new.entries.items b v ≡ true → has_at now.entries.items b v ≡ true =
    λ b v h. and_left (has_at now.entries.items b v) (not (nat_eq b to) || has_at now.ends.items from v) (sym (n.entries b v) ∙ h) in
    let ends : (b v : ℕ) → has_at new.ends.items b v ≡ has_at now.ends.items b v = λ b v. ap (λ rows. has_at rows b v) n.ends in
    let kept : (b v : ℕ) → is_sent new b ≡ true → has_at new.entries.items b v ≡ has_at now.entries.items b v =
    λ b v h. elim (eqb_tells b to) [
      | inl e ↦ n.kept ((marks b h).1 e.1) b v
      | inr e ↦ n.entries b v ∙ ap (λ t. has_at now.entries.items b v && (not t || has_at now.ends.items from v)) e.0 ∙ and_true (has_at now.entries.items b v)
    ] in
    record {
      shape = n.shape;
      parameters = λ v h. w.parameters v (was 0 v h);
      sent = λ b t v sent edge_to has. elim (one_more b t edge_to) [
        | inl before ↦ ends b v ∙ w.sent b t v (marks b sent).0 before (was t v has)
        | inr here ↦
            let both = and_right (has_at now.entries.items t v) (not (nat_eq t to) || has_at now.ends.items from v) (sym (n.entries t v) ∙ has) in
            elim (eqb_tells t to) [
              | inl e ↦
                  let from_has : has_at now.ends.items from v ≡ true = sym (ap (λ x. not x || has_at now.ends.items from v) e.0) ∙ both in
                  ends b v ∙ subst (λ c. has_at now.ends.items c v ≡ true) (sym here.0) from_has
              | inr e ↦ absurd (e.1 here.1)
            ]
      ];
      made = λ b v sent has.
          ap (λ x. is_in v (results_in f b) || x) (kept b v sent) ∙ w.made b v (marks b sent).0 (sym (ends b v) ∙ has);
      lost_before = λ b v gone. elim (and_parts (has_at now.entries.items b v) (not (nat_eq b to) || has_at now.ends.items from v) (sym (n.entries b v) ∙ gone)) [
        | inl before ↦ w.lost_before b v before
        | inr here ↦
            let parts = or_parts (not (nat_eq b to)) (has_at now.ends.items from v) here in
            elim (eqb_tells b to) [
              | inl e ↦ subst (λ c. IsMissedBefore f c v) (sym e.1) (goes_on f from to v edge (w.lost_behind from v parts.1))
              | inr e ↦ absurd (false_is_no_truth {X = ⊥} (not_not (nat_eq b to) e.0) parts.0)
            ]
      ];
      lost_behind = λ b v gone. w.lost_behind b v (sym (ends b v) ∙ gone);
    }

-- the end of a block made anew
pub renew_step : (f : Function) (b : ℕ) (now new : Flow) → b < length f.blocks → IsFlow f (successors f) now → IsRenewed f b now new →
    IsFlow f (sent_edges f b 0) new
renew_step f b now new within w n =
    let entries : (c v : ℕ) → has_at new.entries.items c v ≡ has_at now.entries.items c v = λ c v. ap (λ rows. has_at rows c v) n.entries in
    let here : (v : ℕ) → has_at new.ends.items b v ≡ (is_in v (results_in f b) || has_at now.entries.items b v) =
    λ v. n.ends b v ∙ ap (λ t. cond t (is_in v (results_in f b) || has_at now.entries.items b v) (has_at now.ends.items b v)) (eq-eqb b b refl) in
    let there : (c v : ℕ) → nat_eq c b ≡ false → has_at new.ends.items c v ≡ has_at now.ends.items c v =
    λ c v e. n.ends c v ∙ ap (λ t. cond t (is_in v (results_in f b) || has_at now.entries.items b v) (has_at now.ends.items c v)) e in
    let marks : (c : ℕ) → (c ≡ b → ⊥) → is_sent new c ≡ true → is_sent now c ≡ true =
    λ c e h. ap not (sym (ap (λ xs. get_or xs c true) n.unsent ∙ get_or-set_other now.unsent.items b c false true e)) ∙ h in
    record {
      shape = n.shape;
      parameters = λ v h. w.parameters v (sym (entries 0 v) ∙ h);
      sent = λ c t v sent edge_to has. elim (eqb_tells c b) [
        | inl e ↦ absurd (let none : is_in t (cond true (take 0 (successors f c)) (successors f c)) ≡ true = subst (λ x. is_in t (cond x (take 0 (successors f c)) (successors f c)) ≡ true) e.0 edge_to in false_is_no_truth {X = ⊥} none (is_in-none t (successors f c)))
        | inr e ↦
            let all : is_in t (successors f c) ≡ true = subst (λ x. is_in t (cond x (take 0 (successors f c)) (successors f c)) ≡ true) e.0 edge_to in
            there c v e.0 ∙ w.sent c t v (marks c e.1 sent) all (sym (entries t v) ∙ has)
      ];
      made = λ c v sent has. ap (λ x. is_in v (results_in f c) || x) (entries c v) ∙ elim (eqb_tells c b) [
        | inl e ↦ subst (λ d. (is_in v (results_in f d) || has_at now.entries.items d v) ≡ true) (sym e.1)
            (sym (here v) ∙ subst (λ d. has_at new.ends.items d v ≡ true) e.1 has)
        | inr e ↦ w.made c v (marks c e.1 sent) (sym (there c v e.0) ∙ has)
      ];
      lost_before = λ c v gone. w.lost_before c v (sym (entries c v) ∙ gone);
      lost_behind = λ c v gone. elim (eqb_tells c b) [
        | inl e ↦
            let parts = or_parts (is_in v (results_in f b)) (has_at now.entries.items b v) (sym (here v) ∙ subst (λ d. has_at new.ends.items d v ≡ false) e.1 gone) in
            subst (λ d. IsMissedBehind f d v) (sym e.1) (missed_behind f b v parts.0 (w.lost_before b v parts.1))
        | inr e ↦ w.lost_behind c v (sym (there c v e.0) ∙ gone)
      ];
    }

-- the first k edges of a block sent, since a flow from which nothing has been lost unless it is said
pub record IsSending (f : Function) (b k : ℕ) (old now : Flow) (lost : Bool) : Type 0 where
  pub flow : IsFlow f (sent_edges f b k) now
  pub within : k ≤ length (successors f b)
  pub sent : lost ≡ false → now.unsent.items ≡ old.unsent.items
  pub same : lost ≡ false → weight now.entries.items ≡ weight old.entries.items
  pub less : lost ≡ true → weight now.entries.items < weight old.entries.items

pub none_sent : (f : Function) (b : ℕ) (old : Flow) → IsFlow f (sent_edges f b 0) old → IsSending f b 0 old old false
none_sent f b old w = record { flow = w; within = omega arith; sent = λ e. refl; same = λ e. refl; less = λ e. absurd (cc) }

pub edge_at : (f : Function) (b k to : ℕ) → Some to ≡ slice_get (successors f b) k → is_in to (successors f b) ≡ true
edge_at f b k to h = in_from_place (successors f b) k to (sym h)

in_more : (xs : List ℕ) (k to t : ℕ) → Some to ≡ slice_get xs k → is_in t (take (k + 1) xs) ≡ true → (is_in t (take k xs) ≡ true) ⊎ (t ≡ to)
in_more xs k to t h i =
    let here : k < length xs = slice_get_within xs k to (sym h) in
    let more : take (k + 1) xs ≡ take k xs ++ (to ∷ []) =
    take_more xs k 0 here ∙ ap (λ x. take k xs ++ (x ∷ [])) (get_or_from_slice_get xs k to 0 (sym h)) in
    elim (in_cases t (take k xs) (to ∷ []) (sym (ap (is_in t) more) ∙ i)) [
      | inl a ↦ inl a
      | inr a ↦ elim (first_or_rest t to [] a) [ inl e ↦ inr e | inr e ↦ absurd (cc) ]
    ]

one_more_edge : (f : Function) (from k to : ℕ) → Some to ≡ slice_get (successors f from) k → (b t : ℕ) →
    is_in t (sent_edges f from (k + 1) b) ≡ true → (is_in t (sent_edges f from k b) ≡ true) ⊎ ((b ≡ from) × (t ≡ to))
one_more_edge f from k to h b t i = elim (eqb_tells b from) [
  | inl e ↦
      let own : is_in t (take (k + 1) (successors f b)) ≡ true =
      subst (λ x. is_in t (cond x (take (k + 1) (successors f b)) (successors f b)) ≡ true) e.0 i in
      elim (in_more (successors f b) k to t (subst (λ c. Some to ≡ slice_get (successors f c) k) (sym e.1) h) own) [
        | inl a ↦ inl (subst (λ x. is_in t (cond x (take k (successors f b)) (successors f b)) ≡ true) (sym e.0) a)
        | inr a ↦ inr (e.1, a)
      ]
  | inr e ↦
      let all : is_in t (successors f b) ≡ true =
      subst (λ x. is_in t (cond x (take (k + 1) (successors f b)) (successors f b)) ≡ true) e.0 i in
      inl (subst (λ x. is_in t (cond x (take k (successors f b)) (successors f b)) ≡ true) (sym e.0) all)
]

or_true_cases : (a b : Bool) → (a || b) ≡ true → (a ≡ true) ⊎ ((a ≡ false) × (b ≡ true))
or_true_cases true b h = inl refl
or_true_cases false b h = inr (refl, h)

pub send_more : (f : Function) (b k to : ℕ) (old now new : Flow) (lost here : Bool) → Some to ≡ slice_get (successors f b) k →
    to < length f.blocks → IsSending f b k old now lost → IsNarrowed f b to now new here → IsSending f b (k + 1) old new (lost || here)
send_more f b k to old now new lost here at within s n =
    let inside = slice_get_within (successors f b) k to (sym at) in
    record {
      flow = narrow_step f (sent_edges f b k) (sent_edges f b (k + 1)) b to now new here (edge_at f b k to at) within (one_more_edge f b k to at) s.flow n;
      within = omega arith;
      sent = λ e. let parts = or_parts lost here e in n.sent parts.1 ∙ s.sent parts.0;
      same = λ e. let parts = or_parts lost here e in n.same_weight parts.1 ∙ s.same parts.0;
      less = λ e. elim (or_true_cases lost here e) [
        | inl t ↦ elim (bool_cases here) [
          | inl u ↦ omega (arith, s.less t, n.less u)
          | inr u ↦ omega (arith, s.less t, n.same_weight u)
        ]
        | inr t ↦ omega (arith, s.same t.0, n.less t.1)
      ];
    }

pub all_sent : (f : Function) (b k : ℕ) (now : Flow) → None ≡ slice_get (successors f b) k → IsFlow f (sent_edges f b k) now → IsFlow f (successors f) now
all_sent f b k now h w =
    let all : take k (successors f b) ≡ successors f b = take_all k (successors f b) (none_is_past (successors f b) k h) in
    along_fewer f (sent_edges f b k) (successors f) now (λ c t i. elim (eqb_tells c b) [
      | inl e ↦
          let whole : take k (successors f c) ≡ successors f c = subst (λ d. take k (successors f d) ≡ successors f d) (sym e.1) all in
          subst (λ x. is_in t (cond x (take k (successors f c)) (successors f c)) ≡ true) (sym e.0) (subst (λ ys. is_in t ys ≡ true) (sym whole) i)
      | inr e ↦ subst (λ x. is_in t (cond x (take k (successors f c)) (successors f c)) ≡ true) (sym e.0) i
    ]) w

-- the first blocks of the order gone through, since a flow
none_at_first : (b : ℕ) (order : List BlockId) → is_in b (numbers (take 0 order)) ≡ false
none_at_first b [] = refl
none_at_first b (x ∷ order) = refl

pub record IsRound (f : Function) (order : List BlockId) (place : ℕ) (old now : Flow) (lost : Bool) : Type 0 where
  pub flow : IsFlow f (successors f) now
  pub settled : lost ≡ false → IsSettled (take place order) now
  pub same : lost ≡ false → weight now.entries.items ≡ weight old.entries.items
  pub less : lost ≡ true → weight now.entries.items < weight old.entries.items

pub round_begins : (f : Function) (order : List BlockId) (old : Flow) → IsFlow f (successors f) old → IsRound f order 0 old old false
round_begins f order old w = record { flow = w; settled = λ e b h. absurd (false_is_no_truth {X = ⊥} h (none_at_first b order)); same = λ e. refl; less = λ e. absurd (cc) }

pub round_more : (f : Function) (order : List BlockId) (place : ℕ) (d : BlockId) (old now new : Flow) (lost here : Bool) → place < length order →
    IsRound f order place old now lost → IsFlow f (successors f) new →
    (here ≡ false → is_sent new (get_or order place d).0 ≡ true) →
    (here ≡ false → (b : ℕ) → is_sent now b ≡ true → is_sent new b ≡ true) →
    (here ≡ false → weight new.entries.items ≡ weight now.entries.items) →
    (here ≡ true → weight new.entries.items < weight now.entries.items) → IsRound f order (place + 1) old new (lost || here)
round_more f order place d old now new lost here within r w sent others same less = record {
  flow = w;
  settled = λ e b h.
      let parts = or_parts lost here e in
      let more : numbers (take (place + 1) order) ≡ numbers (take place order) ++ ((get_or order place d).0 ∷ []) =
      map_more (λ x. x.0) order place d within in
      elim (in_cases b (numbers (take place order)) ((get_or order place d).0 ∷ []) (sym (ap (is_in b) more) ∙ h)) [
        | inl a ↦ others parts.1 b (r.settled parts.0 b a)
        | inr a ↦ elim (first_or_rest b (get_or order place d).0 [] a) [
          | inl q ↦ subst (λ c. is_sent new c ≡ true) (sym q) (sent parts.1)
          | inr q ↦ absurd (cc)
        ]
      ];
  same = λ e. let parts = or_parts lost here e in same parts.1 ∙ r.same parts.0;
  less = λ e. elim (or_true_cases lost here e) [
    | inl t ↦ elim (bool_cases here) [
      | inl u ↦ omega (arith, r.less t, less u)
      | inr u ↦ omega (arith, r.less t, same u)
    ]
    | inr t ↦ omega (arith, r.same t.0, less t.1)
  ];
}

pub round_ends : (f : Function) (order : List BlockId) (place : ℕ) (old now : Flow) (lost : Bool) → length order ≤ place →
    IsRound f order place old now lost → lost ≡ false → IsSettled order now
round_ends f order place old now lost h r e = subst (λ xs. IsSettled xs now) (take_all place order h) (r.settled e)

-- ids of one block

pub all_flat : {X : Type 0} (P : ℕ → Type 0) (g : X → List ℕ) (xs : List X) → All P (flat_map g xs) → All (λ x. All P (g x)) xs
all_flat P g [] h = All-nil (λ x. All P (g x))
all_flat P g (x ∷ xs) h =
    let parts : All P (g x ++ flat_map g xs) = subst (All P) (flat_map-cons g x xs) h in
    All-cons (λ y. All P (g y)) x xs (all_left P (g x) (flat_map g xs) parts) (all_flat P g xs (all_right P (g x) (flat_map g xs) parts))

pub block_names : (f : Function) → All (λ v. v < length f.values) (ids_of f) → All (λ block. All (λ v. v < length f.values) (block_ids block)) f.blocks
block_names f h =
    let P : ℕ → Type 0 = λ v. v < length f.values in
    all_flat P block_ids f.blocks (all_right P (map (λ p. p.value.0) f.params) (flat_map block_ids f.blocks) h)

pub parameter_names : (f : Function) → All (λ v. v < length f.values) (ids_of f) → All (λ v. v < length f.values) (map (λ p. p.value.0) f.params)
parameter_names f h =
    let P : ℕ → Type 0 = λ v. v < length f.values in
    all_left P (map (λ p. p.value.0) f.params) (flat_map block_ids f.blocks) h
