use Rattle.std.proofs.Common.{◌≡◌, ◌-◌, ◌+◌, suc, length, sym, ap, ◌∙◌, arith}
use Rattle.std.specs.Option.{option_map}
use Rattle.vfa_cond.specs.States.{known}
use Rattle.vfa_rewrite.specs.Putting.{becoming_by}
use Rattle.vfa_rewrite.proofs.OperandsPut.{goes_on_to, noted_of}
use Rattle.vfa_rewrite.proofs.putting_operands.put_name.Goals as goal

pub chain-preserved : goal.chain-preserved
chain-preserved c =
    let state = option_map (λ s. known s.now) c.args.state in
    let others = c.args.others.now in
    let ty = c.type_of-of_type.result in
    let n = length c.args.f.now.values in
    let k = c.chain.counter in
    let all = ap length c.as_slice-end.ensures in
    let left : suc (n - (k + 1)) ≡ n - k = omega (arith, c.chain-test.true, all) in
    record {
      becomes = sym (goes_on_to others state ty (n - (k + 1)) c.chain.at c.in-Some-noted.next (sym c.in_default.ensures) (sym c.in-Some-noted.ensures))
          ∙ (ap (λ m. becoming_by others state ty m c.chain.at) left ∙ c.chain.invariant.becomes);
      operand = noted_of c.args.f.now others ty c.chain.at c.in-Some-noted.next c.requires.may.of_type c.chain.invariant.operand (sym c.in-Some-noted.ensures);
    }
