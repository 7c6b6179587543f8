use Rattle.std.proofs.Common.{◌≡◌, true, drop, sym, ◌∙◌, ap, ◌∷◌, []}
use Rattle.vfa_ir.specs.Grammar.{IsWidth}
use Rattle.vfa_read.specs.Items.{parts_after}
use Rattle.vfa_read.specs.Productions.{phi_part, phi_parts, still_operands}
use Rattle.vfa_read.specs.Readers.{made}
use Rattle.vfa_read.specs.Seen.{all_of}
use Rattle.vfa_read.proofs.Accumulated.{add_parts, added, added_bad, added_done, added_item, no_parts, one_part}
use Rattle.vfa_read.proofs.LineReaders.{parts_done, parts_item, parts_bad, part_shorter}
use Rattle.vfa_read.proofs.Loops.{stops_through, gives_error}
use Rattle.vfa_read.proofs.source.Source.parts_after.Goals as goal

pub returns-in_err-part : goal.returns-in_err-part
returns-in_err-part c =
    let all = all_of c.args.self.now in
    let s = c.list.operands in
    let w = c.args.width in
    let h : IsWidth w = record { least = c.requires.least; most = c.requires.most } in
    let here = phi_parts w s (drop c.list.at all) in
    let e = c.in_err-part.field-0.0 in
    let found = sym c.has_mark.ensures ∙ c.list-test.true in
    let whole = made (parts_after c.args.first) (phi_parts w true) (drop c.args.from all) in
    let g = stops_through all e (phi_part w s (drop c.list.at all)) whole
    (λ n i. sym c.list.invariant ∙ added_bad add_parts no_parts one_part c.list.parts n here (parts_bad w h s (drop c.list.at all) n found i)) c.in_err-part.ensures in
    gives_error all e c.from_residual-in_err-part.result whole c.from_residual-in_err-part.ensures.1 g

pub list-smaller : goal.list-smaller
list-smaller c =
    let all = all_of c.args.self.now in
    part_shorter c.args.width (record { least = c.requires.least; most = c.requires.most }) c.list.operands (drop c.list.at all) (drop c.in_ok-part.next all) c.in_ok-part.part c.in_ok-part.ensures

pub list-preserved : goal.list-preserved
list-preserved c =
    let all = all_of c.args.self.now in
    let parts = c.list.parts in
    let s = c.list.operands in
    let w = c.args.width in
    let h : IsWidth w = record { least = c.requires.least; most = c.requires.most } in
    let x = c.in_ok-part.part in
    let next = drop c.in_ok-part.next all in
    let item = parts_item w h s (drop c.list.at all) next x (sym c.has_mark.ensures ∙ c.list-test.true) c.in_ok-part.ensures in
    let e = added_item add_parts no_parts one_part parts x (phi_parts w s (drop c.list.at all)) (phi_parts w (still_operands s x) next) item in
    let pushed : c.push.new.self ≡ add_parts parts (x ∷ []) = λ i. record { entries = c.in_ok-push.ensures.entries i; attached = c.in_ok-push.ensures.attached i } in
    ap (λ z. added add_parts no_parts one_part z (phi_parts w c.still_operands-operands.result next)) pushed
    ∙ ap (λ b. added add_parts no_parts one_part (add_parts parts (x ∷ [])) (phi_parts w b next)) c.still_operands-operands.ensures ∙ sym e ∙ c.list.invariant

pub returns : goal.returns
returns c =
    let all = all_of c.args.self.now in
    let w = c.args.width in
    let h : IsWidth w = record { least = c.requires.least; most = c.requires.most } in
    let here = drop c.list.at all in
    sym c.list.invariant ∙ added_done add_parts no_parts one_part c.list.parts here (phi_parts w c.list.operands here)
    (parts_done w h c.list.operands here (sym c.has_mark.ensures ∙ c.list-test.false))
