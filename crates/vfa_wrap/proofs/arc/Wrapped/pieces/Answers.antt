use Rattle.std.proofs.Common.{◌≡◌, refl, ◌∙◌, ap, ◌+◌, ◌^◌, ◌<◌, ℕ, Bool, Option, Some, None, true, false, arith}
use Rattle.std.specs.Option.{option_map, option_or, option_and}
use Rattle.vfa_dom.specs.Sets.{meet}
use Rattle.vfa_wrap.specs.Arc.{Span, steps, in_span, IsArc, full_span}
use Rattle.vfa_wrap.specs.Pieces.{in_spans, TwoSpans}
use Rattle.vfa_wrap.specs.Wrapped.{span_of}
use Rattle.vfa_wrap.proofs.CommonArcs.{free_from, left_full, right_full, left_full_holds, right_full_holds, same_first, same_first_holds, in_order, in_turn, in_order_holds, in_turn_holds, run_at_swapped}
use Rattle.vfa_wrap.proofs.arc.Wrapped.pieces.Goals as goal

map_or : {A : Type 0} (f : A → Span) (a b : Option A) → option_map f (option_or a b) ≡ option_or (option_map f a) (option_map f b)
map_or f None b = refl
map_or f (Some a) b = refl

map_and : {A : Type 0} (f : A → Span) (a b : Option A) → option_map f (option_and {U = A} a b) ≡ option_and (option_map f a) (option_map f b)
map_and f None b = refl
map_and f (Some a) b = refl

-- what the program shows of the two parts in this order
shown : {A : Type 0} (f : A → Span) (a b one two : Option A) → one ≡ option_or a b → two ≡ option_and a b →
    (◌≡◌ {A = TwoSpans} (record { one = option_map f one; two = option_map f two }) (record { one = option_or (option_map f a) (option_map f b); two = option_and (option_map f a) (option_map f b) }))
shown f a b one two eo et =
    let left = ap (option_map f) eo ∙ map_or f a b in
    let right = ap (option_map f) et ∙ map_and f a b in
    cc

same_holds : (w x : ℕ) (p q : TwoSpans) (S : ℕ → Bool) → p ≡ q → in_spans w q x ≡ S x → in_spans w p x ≡ S x
same_holds w x p q S e h = ap (λ (a : TwoSpans). in_spans w a x) e ∙ h

pub returns-then-full-clause-pieces : goal.returns-then-full-clause-pieces
returns-then-full-clause-pieces g c =
    left_full g.row.W (span_of c.args.self.now) (span_of c.args.other.now) c.args.other.now.arc (c.full.ensures.0 c.if-full.true)

pub returns-then-full-clause-common : goal.returns-then-full-clause-common
returns-then-full-clause-common g c x =
    left_full_holds g.row.W x (span_of c.args.self.now) (span_of c.args.other.now) (c.full.ensures.0 c.if-full.true)

pub returns-then-full-2-clause-pieces : goal.returns-then-full-2-clause-pieces
returns-then-full-2-clause-pieces g c =
    right_full g.row.W (span_of c.args.self.now) (span_of c.args.other.now) c.args.self.now.arc (c.full-2.ensures.0 c.if-full-2.true)

pub returns-then-full-2-clause-common : goal.returns-then-full-2-clause-common
returns-then-full-2-clause-common g c x =
    right_full_holds g.row.W x (span_of c.args.self.now) (span_of c.args.other.now) (c.full-2.ensures.0 c.if-full-2.true)

not_full : (w : ℕ) (s : Span) (b : Bool) → IsArc w s → b ≡ false → (s ≡ full_span w → b ≡ true) → steps w s.first s.last + 1 < 2 ^ w
not_full w s b hs fails tells = free_from w s hs (λ e. let h : b ≡ true = tells e in cc)

pub returns-then-self-other-clause-pieces : goal.returns-then-self-other-clause-pieces
returns-then-self-other-clause-pieces g c =
    let s = span_of c.args.self.now in
    let t = span_of c.args.other.now in
    same_first g.row.W s t (option_map span_of c.common_from-from_other.result) c.args.self.now.arc c.args.other.now.arc
    (not_full g.row.W s c.full.result c.args.self.now.arc c.if-full.false c.full.ensures.1) (not_full g.row.W t c.full-2.result c.args.other.now.arc c.if-full-2.false c.full-2.ensures.1)
    c.if-self-other.true c.common_from-from_other.ensures

pub returns-then-self-other-clause-common : goal.returns-then-self-other-clause-common
returns-then-self-other-clause-common g c x =
    let s = span_of c.args.self.now in
    let t = span_of c.args.other.now in
    same_first_holds g.row.W x s t (option_map span_of c.common_from-from_other.result) c.args.self.now.arc c.args.other.now.arc
    (not_full g.row.W s c.full.result c.args.self.now.arc c.if-full.false c.full.ensures.1) (not_full g.row.W t c.full-2.result c.args.other.now.arc c.if-full-2.false c.full-2.ensures.1)
    c.if-self-other.true c.common_from-from_other.ensures

pub returns-then-self-other-2-clause-pieces : goal.returns-then-self-other-2-clause-pieces
returns-then-self-other-2-clause-pieces g c =
    let s = span_of c.args.self.now in
    let t = span_of c.args.other.now in
    shown span_of c.common_from-from_self.result c.common_from-from_other.result c.or.result c.and.result c.or.ensures c.and.ensures
    ∙ in_order g.row.W s t (option_map span_of c.common_from-from_self.result) (option_map span_of c.common_from-from_other.result) c.args.self.now.arc c.args.other.now.arc
    (not_full g.row.W s c.full.result c.args.self.now.arc c.if-full.false c.full.ensures.1) (not_full g.row.W t c.full-2.result c.args.other.now.arc c.if-full-2.false c.full-2.ensures.1)
    c.if-self-other-2.true
    (c.common_from-from_self.ensures ∙ run_at_swapped g.row.W (in_span g.row.W t) (in_span g.row.W s) s.first c.args.self.now.arc.first_fits) c.common_from-from_other.ensures

pub returns-then-self-other-2-clause-common : goal.returns-then-self-other-2-clause-common
returns-then-self-other-2-clause-common g c x =
    let s = span_of c.args.self.now in
    let t = span_of c.args.other.now in
    same_holds g.row.W x _ _ (meet (in_span g.row.W s) (in_span g.row.W t)) (shown span_of c.common_from-from_self.result c.common_from-from_other.result c.or.result c.and.result c.or.ensures c.and.ensures)
    (in_order_holds g.row.W x s t (option_map span_of c.common_from-from_self.result) (option_map span_of c.common_from-from_other.result) c.args.self.now.arc c.args.other.now.arc
    (not_full g.row.W s c.full.result c.args.self.now.arc c.if-full.false c.full.ensures.1) (not_full g.row.W t c.full-2.result c.args.other.now.arc c.if-full-2.false c.full-2.ensures.1)
    (c.common_from-from_self.ensures ∙ run_at_swapped g.row.W (in_span g.row.W t) (in_span g.row.W s) s.first c.args.self.now.arc.first_fits) c.common_from-from_other.ensures)

pub returns-clause-pieces : goal.returns-clause-pieces
returns-clause-pieces g c =
    let s = span_of c.args.self.now in
    let t = span_of c.args.other.now in
    shown span_of c.common_from-from_other.result c.common_from-from_self.result c.or-2.result c.and-2.result c.or-2.ensures c.and-2.ensures
    ∙ in_turn g.row.W s t (option_map span_of c.common_from-from_self.result) (option_map span_of c.common_from-from_other.result) c.args.self.now.arc c.args.other.now.arc
    (not_full g.row.W s c.full.result c.args.self.now.arc c.if-full.false c.full.ensures.1) (not_full g.row.W t c.full-2.result c.args.other.now.arc c.if-full-2.false c.full-2.ensures.1)
    (omega arith)
    (c.common_from-from_self.ensures ∙ run_at_swapped g.row.W (in_span g.row.W t) (in_span g.row.W s) s.first c.args.self.now.arc.first_fits) c.common_from-from_other.ensures

pub returns-clause-common : goal.returns-clause-common
returns-clause-common g c x =
    let s = span_of c.args.self.now in
    let t = span_of c.args.other.now in
    same_holds g.row.W x _ _ (meet (in_span g.row.W s) (in_span g.row.W t)) (shown span_of c.common_from-from_other.result c.common_from-from_self.result c.or-2.result c.and-2.result c.or-2.ensures c.and-2.ensures)
    (in_turn_holds g.row.W x s t (option_map span_of c.common_from-from_self.result) (option_map span_of c.common_from-from_other.result) c.args.self.now.arc c.args.other.now.arc
    (not_full g.row.W s c.full.result c.args.self.now.arc c.if-full.false c.full.ensures.1) (not_full g.row.W t c.full-2.result c.args.other.now.arc c.if-full-2.false c.full-2.ensures.1)
    (c.common_from-from_self.ensures ∙ run_at_swapped g.row.W (in_span g.row.W t) (in_span g.row.W s) s.first c.args.self.now.arc.first_fits) c.common_from-from_other.ensures)
