use Rattle.std.proofs.Common.{◌≡◌, ℕ, All, take, slice_index_or, arith, refl}
use Rattle.std.proofs.lemmas.List.{take_all}
use Rattle.std.proofs.lemmas.List.Elements.{All-more}
use Rattle.vfa_ir.specs.declared.operations.Ty.{Ty}
use Rattle.vfa_mean.specs.declared.value.Val.{Val}
use Rattle.vfa_values.proofs.tests.covering.Goals as goal

-- the join is of the type by the laws, and holds of the numbers so far and of the next one, whose literal does
pub loop-x-preserved : goal.loop-x-preserved
loop-x-preserved g c =
    let domain = g.V.Values in
    let laws = g.met.V.Values.lawful in
    let before = c.loop-x.invariant in
    let t : Ty = Ty.Int c.args.width in
    let x : ℕ = slice_index_or c.args.numbers.now c.loop-x.x-index 0 in
    let fits = c.requires.fit c.loop-x.x-index 0 c.loop-x-test.true in
    let literal = laws.typed.literal c.args.width x c.requires.width fits in
    let next = domain.answers.literal c.args.width x in
    let alone = (laws.sound.literal c.args.width x (Val.Number x) c.requires.width fits).1 refl in
    let join = domain.answers.join c.loop-x.all next in
    let joined : c.join-all.result ≡ join = rw c.join-all.ensures (rw c.literal.ensures refl) in
    let earlier : All (λ y. domain.holds join (Val.Number y)) (take c.loop-x.x-index c.args.numbers.now) =
    λ k d within. laws.sound.join_first t c.loop-x.all next _ before.typed literal (before.covers k d within) in
    let last = laws.sound.join_second t c.loop-x.all next (Val.Number x) before.typed literal alone in
    rw joined (record {
      typed = laws.typed.join t c.loop-x.all next before.typed literal;
      covers = All-more (λ y. domain.holds join (Val.Number y)) c.args.numbers.now c.loop-x.x-index 0 c.loop-x-test.true earlier last;
    })

pub returns-clause-covers : goal.returns-clause-covers
returns-clause-covers g c =
    let domain = g.V.Values in
    let all : take c.loop-x.x-index c.args.numbers.now ≡ c.args.numbers.now =
    take_all c.loop-x.x-index c.args.numbers.now (omega (arith, c.loop-x-test.false)) in
    rw all at c.loop-x.invariant.covers
