-- The walk with a stack of visits gives the order: what the visits that have begun still find, joined to what has ended.
use Rattle.std.proofs.Common.{◌≡◌, ◌≢◌, ℕ, zero, suc, ◌+◌, Bool, true, false, ◌&&◌, nat_lt, cond, List, [], ◌∷◌, ◌++◌, length, drop, set, reverse, replicate, Option, Some, None, refl, sym, ap, ◌∙◌, subst, append_assoc, add-one, inl, inr, arith}
use Rattle.std.proofs.lemmas.Bool.{ltb-true, ltb-false, lt-ltb, le-ltb}
use Rattle.std.proofs.lemmas.Bool.Decides.{eqb_tells}
use Rattle.std.proofs.lemmas.List.{append-nil, reverse-append}
use Rattle.std.specs.List.{slice_get}
use Rattle.std.specs.Option.{option_map}
use Rattle.vfa_ir.specs.declared.operations.BlockId.{BlockId}
use Rattle.vfa_ir.specs.declared.functions.Function.{Function}
use Rattle.vfa_ir.specs.Walks.{successors}
use Rattle.vfa_cfg.specs.declared.search.Visit.{Visit}
use Rattle.vfa_cfg.specs.Order.{Visits, none, known, fresh, is_new, numbers, IsOrder}
use Rattle.vfa_cfg.specs.Search.{Search, is_unseen, begun, come_to, goes_on, stepped}
use Rattle.vfa_cfg.proofs.Members.{bool_cases}
use Rattle.vfa_cfg.proofs.Visiting.{nothing_found}

-- what the visits that have begun still find, the innermost first
pub data Unwinds (f : Function) : List ℕ → List Visit → List ℕ → List ℕ → Type 0 where
  done : {seen : List ℕ} → Unwinds f seen [] seen []
  ends : {v : Visit} {rest : List Visit} {seen between after below above : List ℕ} →
      Visits f seen (drop v.next (successors f v.block.0)) between below → Unwinds f between rest after above →
      Unwinds f seen (v ∷ rest) after (above ++ (v.block.0 ∷ below))

record Unwound (f : Function) (v : Visit) (rest : List Visit) (seen after found : List ℕ) : Type 0 where
  between : List ℕ
  below : List ℕ
  above : List ℕ
  visit : Visits f seen (drop v.next (successors f v.block.0)) between below
  others : Unwinds f between rest after above
  is : found ≡ above ++ (v.block.0 ∷ below)

unwound : {f : Function} {v : Visit} {rest : List Visit} {seen after found : List ℕ} → Unwinds f seen (v ∷ rest) after found → Unwound f v rest seen after found
unwound (ends {between = between} {below = below} {above = above} x y) =
    record { between = between; below = below; above = above; visit = x; others = y; is = refl }

all_ended : {f : Function} {seen after found : List ℕ} → Unwinds f seen [] after found → (seen ≡ after) × (found ≡ [])
all_ended done = (refl, refl)

-- the marks are those of the blocks seen
pub record AreMarks (f : Function) (marks : List Bool) (seen : List ℕ) : Type 0 where
  pub each : (b : ℕ) → is_unseen marks b ≡ is_new f seen b

-- However the visits that have begun end, the walk finds that and what has ended.
pub record IsOnWay (f : Function) (s : Search) : Type 0 where
  pub seen : List ℕ
  pub marks : AreMarks f s.seen seen
  pub finds : (after found : List ℕ) → Unwinds f seen (reverse s.visits) after found →
      Visits f [] (0 ∷ []) after (found ++ numbers (reverse s.ended))

-- The same where the block is yet to be come to.
pub record IsOnWayTo (f : Function) (s : Search) (to : ℕ) : Type 0 where
  pub seen : List ℕ
  pub marks : AreMarks f s.seen seen
  pub finds : (between below after found : List ℕ) → Visits f seen (to ∷ []) between below → Unwinds f between (reverse s.visits) after found →
      Visits f [] (0 ∷ []) after ((found ++ below) ++ numbers (reverse s.ended))

-- Marks

unseen_here : (marks : List Bool) (b : ℕ) → is_unseen (set marks b true) b ≡ false
unseen_here [] b = refl
unseen_here (m ∷ marks) zero = refl
unseen_here (m ∷ marks) (suc b) = unseen_here marks b

unseen_there : (marks : List Bool) (b x : ℕ) → x ≢ b → is_unseen (set marks b true) x ≡ is_unseen marks x
unseen_there [] b x n = refl
unseen_there (m ∷ marks) zero zero n = absurd (n refl)
unseen_there (m ∷ marks) zero (suc x) n = refl
unseen_there (m ∷ marks) (suc b) zero n = refl
unseen_there (m ∷ marks) (suc b) (suc x) n = unseen_there marks b x (λ e. n (ap suc e))

and-false : (a : Bool) → (a && false) ≡ false
and-false true = refl
and-false false = refl

marks_more : (f : Function) (marks : List Bool) (seen : List ℕ) (b : ℕ) → AreMarks f marks seen → AreMarks f (set marks b true) (b ∷ seen)
marks_more f marks seen b m = record {
  each = λ x. elim (eqb_tells x b) [
    | inl w ↦
        let here : is_unseen (set marks b true) x ≡ false = subst (λ y. is_unseen (set marks b true) y ≡ false) (sym w.1) (unseen_here marks b) in
        here ∙ sym (rw w.0 (and-false (nat_lt x (length f.blocks))))
    | inr w ↦ unseen_there marks b x w.1 ∙ m.each x ∙ sym (rw w.0 refl)
  ];
}

unseen_start : (n b : ℕ) → is_unseen (replicate n false) b ≡ (nat_lt b n && true)
unseen_start zero b = rw (le-ltb b 0 (omega arith)) refl
unseen_start (suc n) zero = rw (lt-ltb 0 (suc n) (omega arith)) refl
unseen_start (suc n) (suc b) = unseen_start n b ∙ elim (bool_cases (nat_lt b n)) [
  | inl t ↦ let l = ltb-true b n t in rw (t, lt-ltb (suc b) (suc n) (omega arith)) refl
  | inr t ↦ let l = ltb-false b n t in rw (t, le-ltb (suc b) (suc n) (omega arith)) refl
]

-- The stack

pushed : (vs : List Visit) (v : Visit) → reverse (vs ++ (v ∷ [])) ≡ v ∷ reverse vs
pushed vs v = reverse-append vs (v ∷ [])

pub starts_on_way : (f : Function) → IsOnWayTo f (record { seen = replicate (length f.blocks) false; visits = []; ended = [] }) 0
starts_on_way f = record {
  seen = [];
  marks = record { each = unseen_start (length f.blocks) };
  finds = λ between below after found x u.
      let end = all_ended u in
      let all : (found ++ below) ++ [] ≡ below = append-nil (found ++ below) ∙ ap (λ y. y ++ below) end.1 in
      subst (λ y. Visits f [] (0 ∷ []) after y) (sym all) (subst (λ s. Visits f [] (0 ∷ []) s below) end.0 x);
}

comes : (f : Function) (s : Search) (to : BlockId) (w : IsOnWayTo f s to.0) (b : Bool) → is_unseen s.seen to.0 ≡ b →
    IsOnWay f (cond b (begun s to) s)
comes f s to w true h =
    let n : is_new f w.seen to.0 ≡ true = sym (w.marks.each to.0) ∙ h in
    record {
      seen = to.0 ∷ w.seen;
      marks = marks_more f s.seen w.seen to.0 w.marks;
      finds = λ after found u.
          let v : Visit = record { block = to; next = 0 } in
          let t = unwound (subst (λ vs. Unwinds f (to.0 ∷ w.seen) vs after found) (pushed s.visits v) u) in
          let all = w.finds t.between (to.0 ∷ t.below) after t.above (fresh n t.visit none) t.others in
          subst (λ y. Visits f [] (0 ∷ []) after (y ++ numbers (reverse s.ended))) (sym t.is) all;
    }
comes f s to w false h =
    let n : is_new f w.seen to.0 ≡ false = sym (w.marks.each to.0) ∙ h in
    record {
      seen = w.seen;
      marks = w.marks;
      finds = λ after found u.
          subst (λ y. Visits f [] (0 ∷ []) after (y ++ numbers (reverse s.ended))) (append-nil found)
          (w.finds w.seen [] after found (known n none) u);
    }

pub come_to_is_on_way : (f : Function) (s : Search) (to : BlockId) → IsOnWayTo f s to.0 → IsOnWay f (come_to s to)
come_to_is_on_way f s to w = comes f s to w (is_unseen s.seen to.0) refl

visits_then :
    {f : Function} {t : ℕ} {seen rest between after below more : List ℕ} → Visits f seen (t ∷ []) between below → Visits f between rest after more →
    Visits f seen (t ∷ rest) after (more ++ below)
visits_then {f} {t} {seen} {rest} {after = after} {below = below} {more = more} (known n v) w =
    let nothing = nothing_found v in
    let same : more ≡ more ++ below = sym (ap (λ x. more ++ x) nothing.1 ∙ append-nil more) in
    subst (λ x. Visits f seen (t ∷ rest) after x) same (known n (subst (λ s. Visits f s rest after more) (sym nothing.0) w))
visits_then {f} {t} {seen} {rest} {after = after} {more = more} (fresh {below = inner} {found = found} n x v) w =
    let nothing = nothing_found v in
    let same : more ++ (t ∷ inner) ≡ more ++ (found ++ (t ∷ inner)) = ap (λ y. more ++ (y ++ (t ∷ inner))) (sym nothing.1) in
    subst (λ y. Visits f seen (t ∷ rest) after y) same (fresh n x (subst (λ s. Visits f s rest after more) (sym nothing.0) w))

drop_none : {X : Type 0} (xs : List X) (n : ℕ) → slice_get xs n ≡ None → drop n xs ≡ []
drop_none [] zero h = refl
drop_none [] (suc n) h = refl
drop_none (x ∷ xs) zero h = absurd (cc)
drop_none (x ∷ xs) (suc n) h = drop_none xs n h

drop_some : {X : Type 0} (xs : List X) (n : ℕ) (x : X) → slice_get xs n ≡ Some x → drop n xs ≡ x ∷ drop (suc n) xs
drop_some [] n x h = absurd (cc)
drop_some (y ∷ xs) zero x h = let e : y ≡ x = cc in ap (λ z. z ∷ xs) e
drop_some (y ∷ xs) (suc n) x h = drop_some xs n x h

ends_on_way : (f : Function) (s : Search) (v : Visit) → slice_get (successors f v.block.0) v.next ≡ None →
    IsOnWay f (record s { visits = s.visits ++ (v ∷ []) }) → IsOnWay f (record s { ended = s.ended ++ (v.block ∷ []) })
ends_on_way f s v h w = record {
  seen = w.seen;
  marks = w.marks;
  finds = λ after found u.
      let b = v.block.0 in
      let last : Visits f w.seen (drop v.next (successors f b)) w.seen [] =
      subst (λ todo. Visits f w.seen todo w.seen []) (sym (drop_none (successors f b) v.next h)) none in
      let all : Unwinds f w.seen (reverse (s.visits ++ (v ∷ []))) after (found ++ (b ∷ [])) =
      subst (λ vs. Unwinds f w.seen vs after (found ++ (b ∷ []))) (sym (pushed s.visits v)) (ends last u) in
      let same : (found ++ (b ∷ [])) ++ numbers (reverse s.ended) ≡ found ++ numbers (reverse (s.ended ++ (v.block ∷ []))) =
      append_assoc found (b ∷ []) (numbers (reverse s.ended))
      ∙ ap (λ bs. found ++ numbers bs) (sym (reverse-append s.ended (v.block ∷ []))) in
      subst (λ y. Visits f [] (0 ∷ []) after y) same (w.finds after (found ++ (b ∷ [])) all);
}

goes_on_way : (f : Function) (s : Search) (v : Visit) (t : ℕ) → slice_get (successors f v.block.0) v.next ≡ Some t →
    IsOnWay f (record s { visits = s.visits ++ (v ∷ []) }) → IsOnWayTo f (goes_on s v) t
goes_on_way f s v t h w = record {
  seen = w.seen;
  marks = w.marks;
  finds = λ between below after found x u.
      let b = v.block.0 in
      let onward : Visit = record v { next = v.next + 1 } in
      let up = unwound (subst (λ vs. Unwinds f between vs after found) (pushed s.visits onward) u) in
      let left : drop v.next (successors f b) ≡ t ∷ drop (v.next + 1) (successors f b) =
      drop_some (successors f b) v.next t h ∙ ap (λ k. t ∷ drop k (successors f b)) (sym (add-one v.next)) in
      let both : Visits f w.seen (drop v.next (successors f b)) up.between (up.below ++ below) =
      subst (λ todo. Visits f w.seen todo up.between (up.below ++ below)) (sym left) (visits_then x up.visit) in
      let found' = up.above ++ (b ∷ (up.below ++ below)) in
      let all : Unwinds f w.seen (reverse (s.visits ++ (v ∷ []))) after found' =
      subst (λ vs. Unwinds f w.seen vs after found') (sym (pushed s.visits v)) (ends both up.others) in
      let same : found' ≡ found ++ below = sym (ap (λ y. y ++ below) up.is ∙ append_assoc up.above (b ∷ up.below) below) in
      subst (λ y. Visits f [] (0 ∷ []) after (y ++ numbers (reverse s.ended))) same (w.finds after found' all);
}

pub step_is_on_way : (f : Function) (s : Search) (v : Visit) (next : Option BlockId) →
    option_map (λ t. t.0) next ≡ slice_get (successors f v.block.0) v.next →
    IsOnWay f (record s { visits = s.visits ++ (v ∷ []) }) → IsOnWay f (stepped s v next)
step_is_on_way f s v None h w = ends_on_way f s v (sym h) w
step_is_on_way f s v (Some t) h w = come_to_is_on_way f (goes_on s v) t (goes_on_way f s v t.0 (sym h) w)

pub ended_is_order : (f : Function) (s : Search) → s.visits ≡ [] → IsOnWay f s → IsOrder f (reverse s.ended)
ended_is_order f s h w = record {
  seen = w.seen;
  visits = w.finds w.seen [] (subst (λ vs. Unwinds f w.seen vs w.seen []) (sym (ap reverse h)) done);
}
