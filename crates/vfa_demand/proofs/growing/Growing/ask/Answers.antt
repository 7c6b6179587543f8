use Rattle.std.proofs.Common.{◌≡◌, ◌≢◌, ◌<◌, ◌^◌, ◌∙◌, ap, sym, subst, length, set, bit_or, arith}
use Rattle.std.proofs.lemmas.List.{get_or_default}
use Rattle.vfa_ir.specs.declared.operations.Operand.{Operand}
use Rattle.vfa_mean.proofs.KeptLoops.{ok_weaker}
use Rattle.vfa_demand.specs.Masks.{IsPartOf, ask_of, mask_in}
use Rattle.vfa_demand.specs.Steps.{IsStep}
use Rattle.vfa_demand.specs.Usable.{IsNameBelow}
use Rattle.vfa_demand.proofs.Within.{within_or_right}
use Rattle.vfa_demand.proofs.Asking.{quiet_step, grown_step}
use Rattle.vfa_demand.proofs.growing.Growing.ask.Goals as goal

pub returns-then-new-old : goal.returns-then-new-old
returns-then-new-old c =
    let bits = c.args.self.now.bits.items in
    let waits = c.args.self.now.waits.items in
    let ahead = c.args.self.now.ahead.items in
    let v = c.in-Value.value in
    let below : v.0 < length bits = subst (IsNameBelow (length bits)) c.in-Value.is c.requires.below in
    let old : c.index-old.result.now ≡ mask_in bits v.0 = c.index-old.ensures ∙ get_or_default bits v.0 c.index-old.result.now 0 below in
    let same : bit_or (mask_in bits v.0) c.args.bits ≡ mask_in bits v.0 =
    ap (λ m. bit_or m c.args.bits) (sym old) ∙ sym c.both-new.ensures ∙ c.if-new-old.true ∙ old in
    let has : IsPartOf c.args.bits (mask_in bits v.0) =
    subst (IsPartOf c.args.bits) same (within_or_right (mask_in bits v.0) c.args.bits) in
    subst (λ o. IsStep (ask_of c.args.bits o) bits bits waits waits ahead ahead) (sym c.in-Value.is)
    (quiet_step (ask_of c.args.bits (Operand.Value v)) bits waits ahead (has, tt))

pub returns : goal.returns
returns c =
    let bits = c.args.self.now.bits.items in
    let waits = c.args.self.now.waits.items in
    let ahead = c.args.self.now.ahead.items in
    let v = c.in-Value.value in
    let more = c.args.bits in
    let below : v.0 < length bits = subst (IsNameBelow (length bits)) c.in-Value.is c.requires.below in
    let old : c.index-old.result.now ≡ mask_in bits v.0 = c.index-old.ensures ∙ get_or_default bits v.0 c.index-old.result.now 0 below in
    let new : c.both-new.result ≡ bit_or (mask_in bits v.0) more = c.both-new.ensures ∙ ap (λ m. bit_or m more) old in
    let fits : bit_or (mask_in bits v.0) more < 2 ^ 128 = subst (λ m. m < 2 ^ 128) new c.both-new.type_inv in
    let other : bit_or (mask_in bits v.0) more ≢ mask_in bits v.0 = λ same. c.if-new-old.false (new ∙ same ∙ sym old) in
    let set_new : c.put.new.self.bits.items ≡ set bits v.0 (bit_or (mask_in bits v.0) more) = c.put.ensures.bits ∙ ap (set bits v.0) new in
    ok_weaker _ _ c.put.result
    (λ _ put.
    subst (λ b. IsStep (ask_of more c.args.operand) bits b waits c.put.new.self.waits.items ahead c.put.new.self.ahead.items) (sym set_new)
    (subst (λ o. IsStep (ask_of more o) bits (set bits v.0 (bit_or (mask_in bits v.0) more)) waits c.put.new.self.waits.items ahead c.put.new.self.ahead.items)
    (sym c.in-Value.is) (grown_step bits v more waits c.put.new.self.waits.items ahead c.put.new.self.ahead.items below fits other put)))
    c.put.ensures.put
