use Rattle.std.proofs.Common.{◌≡◌, ◌↔◌, ◌∙◌, ℕ, Bool, true, false, None, Some, IfOk, length, sym, ap, subst}
use Rattle.std.specs.Prelude.{slice_index_or}
use Rattle.vfa_ir.specs.declared.functions.Function.{Function}
use Rattle.vfa_ir.specs.declared.functions.Inst.{Inst}
use Rattle.vfa_demand.specs.Used.{UsesItsValues, AreUsed, must_in}
use Rattle.vfa_mean.specs.Kept.{is_marked}
use Rattle.vfa_walk.specs.Kept.{AreStates, kept_entries}
use Rattle.vfa_xfer.specs.AnyFacts.{fact_type, IsAnyFact}
use Rattle.vfa_rewrite.specs.ByFacts.{findings_of}
use Rattle.vfa_rewrite.specs.Chains.{other_for}
use Rattle.vfa_rewrite.specs.Found.{AreKeptOf}
use Rattle.vfa_rewrite.specs.Making.{first_marks, made_marks, line_at, must_stay_at}
use Rattle.vfa_rewrite.specs.Marks.{Reached}
use Rattle.vfa_rewrite.specs.Rewritten.{rewritten}
use Rattle.vfa_rewrite.proofs.TableFacts.{typed_facts}
use Rattle.vfa_rewrite.proofs.TableMarks.{first_step_uses}
use Rattle.vfa_rewrite.proofs.TargetsLeft.{blocks_count}
use Rattle.vfa_rewrite.proofs.rewriting.what_is_left.Goals as goal

pub find_out-requires : goal.find_out-requires
find_out-requires c = subst (λ g. AreStates fact_type IsAnyFact g c.args.table.now) c.requires.same c.requires.states

pub reached-requires-clause-within : goal.reached-requires-clause-within
reached-requires-clause-within c = c.requires.checked.within

pub reached-requires-clause-count : goal.reached-requires-clause-count
reached-requires-clause-count c =
    ap length c.as_slice-kept.ensures.value ∙ (c.in_ok-found.ensures.count ∙ ap (λ (g : Function). length g.blocks) (sym c.requires.same))

pub replaced-requires-clause-count : goal.replaced-requires-clause-count
replaced-requires-clause-count c =
    ap length c.as_slice-kept.ensures.value ∙ (c.in_ok-found.ensures.count ∙ ap (λ (g : Function). length g.blocks) (sym c.requires.same))

pub put_in-requires-clause-states : goal.put_in-requires-clause-states
put_in-requires-clause-states c = subst (λ g. AreStates fact_type IsAnyFact g c.args.table.now) c.requires.same c.requires.states

pub put_in-requires-clause-kept : goal.put_in-requires-clause-kept
put_in-requires-clause-kept c =
    subst (AreKeptOf c.args.checked.now (findings_of c.args.checked.now (kept_entries c.args.table.now))) (sym c.as_slice-kept.ensures.value) c.in_ok-found.ensures

pub put_in-requires-clause-others : goal.put_in-requires-clause-others
put_in-requires-clause-others c =
    let t = kept_entries c.args.table.now in
    let f = c.args.f.now in
    let kept : AreKeptOf f (findings_of f t) c.as_slice-kept.result.now =
    subst (λ g. AreKeptOf g (findings_of g t) c.as_slice-kept.result.now) (sym c.requires.same)
    (subst (AreKeptOf c.args.checked.now (findings_of c.args.checked.now t)) (sym c.as_slice-kept.ensures.value) c.in_ok-found.ensures) in
    let of : IfOk c.replaced.result (λ others. (n : ℕ) → slice_index_or others.items n None ≡ other_for f (findings_of f t) n) = c.replaced.ensures (findings_of f t) kept in
    let is : (n : ℕ) → slice_index_or c.in_ok-others.others.items n None ≡ other_for f (findings_of f t) n =
    subst (λ r. IfOk r (λ others. (n : ℕ) → slice_index_or others.items n None ≡ other_for f (findings_of f t) n)) c.in_ok-others.was of in
    λ n. ap (λ others. slice_index_or others n None) c.as_slice.ensures.value ∙ (is n ∙ ap (λ g. other_for g (findings_of g t) n) c.requires.same)

pub used_names-requires : goal.used_names-requires
used_names-requires c =
    let t = kept_entries c.args.table.now in
    let f = c.args.f.now in
    let printable = c.fit_is_printable.ensures f c.requires.checked.fit in
    let marks = is_marked c.as_slice-marks.result.now in
    let put = c.in_ok-put.ensures ∙ ap (λ g. rewritten g (first_marks g (findings_of g t) marks)) (sym c.requires.same) in
    subst UsesItsValues (sym put) (first_step_uses f t c.requires.checked printable (typed_facts f c.args.table.now c.requires.states) marks)

pub lines_left-requires-clause-found : goal.lines_left-requires-clause-found
lines_left-requires-clause-found c =
    ap length c.as_slice-kept.ensures.value ∙ (c.in_ok-found.ensures.count ∙ ap (λ (g : Function). length g.blocks) (sym c.requires.same))

pub lines_left-requires-clause-same : goal.lines_left-requires-clause-same
lines_left-requires-clause-same c =
    let t = kept_entries c.args.table.now in
    let g = c.args.checked.now in
    let marks = is_marked c.as_slice-marks.result.now in
    ap (λ (h : Function). length h.blocks) c.in_ok-put.ensures ∙ (blocks_count g (first_marks g (findings_of g t) marks) ∙ ap (λ (g : Function). length g.blocks) (sym c.requires.same))

pub returns : goal.returns
returns c =
    let t = kept_entries c.args.table.now in
    let f = c.args.f.now in
    let found = findings_of f t in
    let printable = c.fit_is_printable.ensures f c.requires.checked.fit in
    let facts = typed_facts f c.args.table.now c.requires.states in
    let marks : ℕ → Bool = is_marked c.as_slice-marks.result.now in
    let used : ℕ → Bool = is_marked c.as_slice-3.result.now in
    let must : ℕ → ℕ → Bool = must_in c.as_slice-2.result.now in
    let kept : AreKeptOf f found c.as_slice-kept.result.now =
    subst (λ g. AreKeptOf g (findings_of g t) c.as_slice-kept.result.now) (sym c.requires.same)
    (subst (AreKeptOf c.args.checked.now (findings_of c.args.checked.now t)) (sym c.as_slice-kept.ensures.value) c.in_ok-found.ensures) in
    let put : c.in_ok-put.put ≡ rewritten f (first_marks f found marks) = c.in_ok-put.ensures ∙ ap (λ g. rewritten g (first_marks g (findings_of g t) marks)) (sym c.requires.same) in
    let reached : (b : ℕ) → (slice_index_or c.in_ok-reached.reached.items b false ≡ true) ↔ Reached f found b =
    subst (λ r. IfOk r (λ marks. (b : ℕ) → (slice_index_or marks.items b false ≡ true) ↔ Reached f found b)) c.in_ok-reached.was (c.reached.ensures found kept) in
    let must_is : (b i : ℕ) (inst : Inst) → line_at f b i ≡ Some inst → found.met b i ≡ true → must_in c.in_ok-must.must.items b i ≡ must_stay_at f found b i =
    subst (λ r. IfOk r (λ must. (b i : ℕ) (inst : Inst) → line_at f b i ≡ Some inst → found.met b i ≡ true → must_in must.items b i ≡ must_stay_at f found b i)) c.in_ok-must.was
    (c.must_stay.ensures found kept) in
    let left : c.in_ok-function.function ≡ rewritten f (made_marks f found marks used) =
    subst (λ r. IfOk r (λ g. g ≡ rewritten f (made_marks f found marks used))) c.in_ok-function.was (c.lines_left.ensures found kept put) in
    let are_used : AreUsed (rewritten f (first_marks f found marks)) must used =
    subst (λ h. AreUsed h must used) put (subst (λ marks. AreUsed c.in_ok-put.put must (is_marked marks)) (sym c.as_slice-3.ensures.value) c.in_ok-used.ensures.used) in
    record {
      marks = made_marks f found marks used;
      are_marks = c.made_marks_are_marks.ensures.met f t marks used must c.requires.checked printable facts
          (subst (λ list. (b : ℕ) → (slice_index_or list b false ≡ true) ↔ Reached f found b) (sym c.as_slice-marks.ensures.value) reached)
          (λ b i inst line met. ap (λ list. must_in list b i) c.as_slice-2.ensures.value ∙ must_is b i inst line met)
          are_used;
      function = left;
      reached = ap is_marked c.as_slice-marks.ensures.value;
    }
