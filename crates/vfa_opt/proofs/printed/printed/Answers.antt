use Rattle.std.proofs.Common.{◌≡◌, ◌∙◌, ap, subst, sym}
use Rattle.vfa_ir.specs.Reads.{Reads}
use Rattle.vfa_print.specs.Trees.{function_text}
use Rattle.vfa_opt.proofs.printed.printed.Goals as goal

pub returns-clause-text : goal.returns-clause-text
returns-clause-text c = record {
  function = c.in_ok-optimised.optimised;
  is_optimised = c.in_ok-optimised.ensures.optimised;
  is = c.in_ok-text.ensures.text ∙ ap function_text c.function-function.ensures.same;
}

pub returns-clause-sound : goal.returns-clause-sound
returns-clause-sound c = λ text o.
    let f = c.args.f.now in
    let g = c.in_ok-optimised.optimised in
    let checked = c.function-checked.ensures.checked in
    let one : o.function ≡ g = c.one_optimised.ensures f o.function g checked o.is_optimised c.in_ok-optimised.ensures.optimised in
    let own = c.in_ok-text.ensures.text ∙ ap function_text c.function-function.ensures.same in
    let same : text ≡ c.in_ok-text.text.items = o.is ∙ (ap function_text one ∙ sym own) in
    let again = c.in_ok-text.ensures.again in
    record {
      function = g;
      lines = again.0;
      reads = subst (λ s. Reads s g again.0) (sym same) (subst (λ h. Reads c.in_ok-text.text.items h again.0) c.function-function.ensures.same again.1);
      refines = c.in_ok-optimised.ensures.refines;
      numbers = λ t is. c.numbers_are_printed.ensures f g t checked c.requires.few c.in_ok-optimised.ensures.optimised is;
    }
