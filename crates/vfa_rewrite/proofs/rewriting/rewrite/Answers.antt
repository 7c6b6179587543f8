use Rattle.std.proofs.Common.{◌≡◌, ◌≤◌, ◌*◌, ◌^◌, ◌∙◌, length, sym, ap, subst, arith}
use Rattle.std.proofs.lemmas.Result.{IfOk-weaker}
use Rattle.vfa_ir.specs.declared.functions.Function.{Function}
use Rattle.vfa_check.specs.Checked.{IsChecked}
use Rattle.vfa_mean.specs.Kept.{is_marked}
use Rattle.vfa_mean.specs.Refines.{Refines}
use Rattle.vfa_walk.specs.Kept.{AreStates, kept_entries}
use Rattle.vfa_xfer.specs.AnyFacts.{fact_type, IsAnyFact}
use Rattle.vfa_rewrite.specs.Remains.{AreRemains}
use Rattle.vfa_rewrite.specs.Rewriting.{IsRewritten}
use Rattle.vfa_rewrite.specs.Sizes.{IsLittleLarger}
use Rattle.vfa_rewrite.proofs.ReadMarks.{agree_turned, marks_still, rewritten_still}
use Rattle.vfa_rewrite.proofs.TableFacts.{typed_facts}
use Rattle.vfa_rewrite.proofs.TableMarks.{left_may_be_numbered, left_defines_once, left_has_few, left_is_rewritten}
use Rattle.vfa_rewrite.proofs.rewriting.rewrite.Goals as goal

pub what_is_left-requires-clause-states : goal.what_is_left-requires-clause-states
what_is_left-requires-clause-states c = subst (λ g. AreStates fact_type IsAnyFact g c.args.table.now) (sym c.ready.ensures.same) c.requires.states

pub what_is_left-requires-clause-few : goal.what_is_left-requires-clause-few
what_is_left-requires-clause-few c = subst (λ (g : Function). length g.values ≤ 2 ^ 26) (sym c.ready.ensures.same) c.requires.few

pub numbered-requires-clause-numbered : goal.numbered-requires-clause-numbered
numbered-requires-clause-numbered c =
    let f = c.ready.result.now in
    let states = subst (λ g. AreStates fact_type IsAnyFact g c.args.table.now) (sym c.ready.ensures.same) c.requires.states in
    let left = c.in_ok-left.ensures in
    left_may_be_numbered f (kept_entries c.args.table.now) c.ready.ensures.checked (c.fit_is_printable.ensures f c.ready.ensures.checked.fit) (typed_facts f c.args.table.now states)
    left.marks left.are_marks c.in_ok-left.left.function left.function (is_marked c.as_slice.result.now) (left.reached ∙ ap is_marked (sym c.as_slice.ensures.value))

pub numbered-requires-clause-once : goal.numbered-requires-clause-once
numbered-requires-clause-once c =
    let f = c.ready.result.now in
    let states = subst (λ g. AreStates fact_type IsAnyFact g c.args.table.now) (sym c.ready.ensures.same) c.requires.states in
    let left = c.in_ok-left.ensures in
    left_defines_once f (kept_entries c.args.table.now) c.ready.ensures.checked (c.fit_is_printable.ensures f c.ready.ensures.checked.fit) (typed_facts f c.args.table.now states)
    left.marks left.are_marks c.in_ok-left.left.function left.function (is_marked c.as_slice.result.now) (left.reached ∙ ap is_marked (sym c.as_slice.ensures.value))

pub numbered-requires-clause-few : goal.numbered-requires-clause-few
numbered-requires-clause-few c =
    let f = c.ready.result.now in
    let states = subst (λ g. AreStates fact_type IsAnyFact g c.args.table.now) (sym c.ready.ensures.same) c.requires.states in
    let left = c.in_ok-left.ensures in
    left_has_few f (kept_entries c.args.table.now) c.ready.ensures.checked (c.fit_is_printable.ensures f c.ready.ensures.checked.fit) (typed_facts f c.args.table.now states)
    left.marks left.are_marks c.in_ok-left.left.function left.function (is_marked c.as_slice.result.now) (left.reached ∙ ap is_marked (sym c.as_slice.ensures.value))

pub checked_again-requires : goal.checked_again-requires
checked_again-requires c =
    let f = c.ready.result.now in
    let t = kept_entries c.args.table.now in
    let states = subst (λ g. AreStates fact_type IsAnyFact g c.args.table.now) (sym c.ready.ensures.same) c.requires.states in
    let facts = typed_facts f c.args.table.now states in
    let left = c.in_ok-left.ensures in
    let is : IsRewritten f t c.in_ok-numbered.numbered =
    left_is_rewritten f t c.ready.ensures.checked (c.fit_is_printable.ensures f c.ready.ensures.checked.fit) facts left.marks left.are_marks c.in_ok-left.left.function left.function
    (is_marked c.as_slice.result.now) (left.reached ∙ ap is_marked (sym c.as_slice.ensures.value)) c.in_ok-numbered.numbered c.in_ok-numbered.ensures.exact in
    let larger = (c.rewritten_is_checked.ensures.little_larger f c.in_ok-numbered.numbered t c.ready.ensures.checked facts is).values in
    let few = subst (λ (g : Function). length g.values ≤ 2 ^ 26) (sym c.ready.ensures.same) c.requires.few in
    c.rewritten_is_checked.ensures.checked f c.in_ok-numbered.numbered t c.ready.ensures.checked facts is (omega (arith, larger, few))

pub returns-clause-rewritten : goal.returns-clause-rewritten
returns-clause-rewritten c =
    let f = c.ready.result.now in
    let t = kept_entries c.args.table.now in
    let states = subst (λ g. AreStates fact_type IsAnyFact g c.args.table.now) (sym c.ready.ensures.same) c.requires.states in
    let left = c.in_ok-left.ensures in
    let is : IsRewritten f t c.in_ok-numbered.numbered =
    left_is_rewritten f t c.ready.ensures.checked (c.fit_is_printable.ensures f c.ready.ensures.checked.fit) (typed_facts f c.args.table.now states) left.marks left.are_marks
    c.in_ok-left.left.function left.function (is_marked c.as_slice.result.now) (left.reached ∙ ap is_marked (sym c.as_slice.ensures.value)) c.in_ok-numbered.numbered c.in_ok-numbered.ensures.exact in
    let of_f : IsRewritten c.args.f.now t c.in_ok-numbered.numbered = subst (λ g. IsRewritten g t c.in_ok-numbered.numbered) c.ready.ensures.same is in
    IfOk-weaker c.checked_again.result _ _ (λ (g : Function) (same : g ≡ c.in_ok-numbered.numbered). subst (IsRewritten c.args.f.now t) (sym same) of_f) c.checked_again.ensures

pub returns-clause-little_larger : goal.returns-clause-little_larger
returns-clause-little_larger c =
    let f = c.ready.result.now in
    let t = kept_entries c.args.table.now in
    let states = subst (λ g. AreStates fact_type IsAnyFact g c.args.table.now) (sym c.ready.ensures.same) c.requires.states in
    let facts = typed_facts f c.args.table.now states in
    let left = c.in_ok-left.ensures in
    let is : IsRewritten f t c.in_ok-numbered.numbered =
    left_is_rewritten f t c.ready.ensures.checked (c.fit_is_printable.ensures f c.ready.ensures.checked.fit) facts left.marks left.are_marks c.in_ok-left.left.function left.function
    (is_marked c.as_slice.result.now) (left.reached ∙ ap is_marked (sym c.as_slice.ensures.value)) c.in_ok-numbered.numbered c.in_ok-numbered.ensures.exact in
    let larger : IsLittleLarger c.args.f.now c.in_ok-numbered.numbered =
    subst (λ g. IsLittleLarger g c.in_ok-numbered.numbered) c.ready.ensures.same (c.rewritten_is_checked.ensures.little_larger f c.in_ok-numbered.numbered t c.ready.ensures.checked facts is) in
    IfOk-weaker c.checked_again.result _ _ (λ (g : Function) (same : g ≡ c.in_ok-numbered.numbered). subst (IsLittleLarger c.args.f.now) (sym same) larger) c.checked_again.ensures

pub returns-clause-refines : goal.returns-clause-refines
returns-clause-refines c is_true =
    let f = c.args.f.now in
    let t = kept_entries c.args.table.now in
    let checked : IsChecked f = subst IsChecked c.ready.ensures.same c.ready.ensures.checked in
    let left : AreRemains f t c.in_ok-left.left = subst (λ g. AreRemains g t c.in_ok-left.left) c.ready.ensures.same c.in_ok-left.ensures in
    let first : Refines f c.in_ok-left.left.function =
    subst (Refines f) (sym left.function)
    (c.rewriting_by_facts_refines.ensures f t left.marks checked (c.fit_is_printable.ensures f checked.fit) (typed_facts f c.args.table.now c.requires.states) is_true left.are_marks) in
    let whole : Refines f c.in_ok-numbered.numbered =
    c.refinement_is_a_preorder.ensures.transitive f c.in_ok-left.left.function c.in_ok-numbered.numbered first c.in_ok-numbered.ensures.refines in
    IfOk-weaker c.checked_again.result _ _ (λ (g : Function) (same : g ≡ c.in_ok-numbered.numbered). subst (Refines f) (sym same) whole) c.checked_again.ensures

pub returns-clause-by_read_names : goal.returns-clause-by_read_names
returns-clause-by_read_names c t agree =
    let f = c.args.f.now in
    let kept = kept_entries c.args.table.now in
    let checked : IsChecked f = subst IsChecked c.ready.ensures.same c.ready.ensures.checked in
    IfOk-weaker c.checked_again.result _ _ (λ (g : Function) (is : IsRewritten f kept g). rewritten_still f checked kept t (agree_turned f checked t kept agree) g is) (returns-clause-rewritten c)

pub returns-clause-refines_by_read_names : goal.returns-clause-refines_by_read_names
returns-clause-refines_by_read_names c t typed is_true agree =
    let f = c.args.f.now in
    let kept = kept_entries c.args.table.now in
    let checked : IsChecked f = subst IsChecked c.ready.ensures.same c.ready.ensures.checked in
    let left : AreRemains f kept c.in_ok-left.left = subst (λ g. AreRemains g kept c.in_ok-left.left) c.ready.ensures.same c.in_ok-left.ensures in
    let marks = marks_still f checked kept t (agree_turned f checked t kept agree) left.marks left.are_marks in
    let first : Refines f c.in_ok-left.left.function =
    subst (Refines f) (sym left.function) (c.rewriting_by_facts_refines.ensures f t left.marks checked (c.fit_is_printable.ensures f checked.fit) typed is_true marks) in
    let whole : Refines f c.in_ok-numbered.numbered =
    c.refinement_is_a_preorder.ensures.transitive f c.in_ok-left.left.function c.in_ok-numbered.numbered first c.in_ok-numbered.ensures.refines in
    IfOk-weaker c.checked_again.result _ _ (λ (g : Function) (same : g ≡ c.in_ok-numbered.numbered). subst (Refines f) (sym same) whole) c.checked_again.ensures
