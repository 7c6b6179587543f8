use Rattle.std.proofs.Common.{drop, map, sym, ◌∙◌, ap}
use Rattle.vfa_read.specs.Productions.{words_among}
use Rattle.vfa_read.specs.Readers.{one}
use Rattle.vfa_read.specs.Seen.{all_of}
use Rattle.vfa_read.specs.Tables.{word_among}
use Rattle.vfa_read.proofs.Loops.{prefix_done, prefix_item, prefix_bad, with_prefix, stops_through, gives_error}
use Rattle.vfa_read.proofs.WordLists.{words_done, words_item, words_bad, word_shorter}
use Rattle.vfa_read.proofs.source.Source.words_among.Goals as goal

pub returns-in_err-word : goal.returns-in_err-word
returns-in_err-word c =
    let all = all_of c.args.self.now in
    let texts = map (λ w. w.now) c.args.words.now in
    let here = words_among texts (drop c.list.at all) in
    let e = c.in_err-word.field-0.0 in
    let found = sym c.has_word_among.ensures ∙ c.list-test.true in
    let g = stops_through all e (one (word_among texts) (drop c.list.at all)) (words_among texts (drop c.args.from all))
    (λ n i. sym c.list.invariant ∙ prefix_bad c.list.list.items n here (words_bad texts (drop c.list.at all) n found i)) c.in_err-word.ensures in
    gives_error all e c.from_residual.result (words_among texts (drop c.args.from all)) c.from_residual.ensures.1 g

pub list-smaller : goal.list-smaller
list-smaller c = let a = c.in_ok-word.ensures in word_shorter (map (λ w. w.now) c.args.words.now) _ _ _ a

pub list-preserved : goal.list-preserved
list-preserved c =
    let all = all_of c.args.self.now in
    let texts = map (λ w. w.now) c.args.words.now in
    let prefix = c.list.list.items in
    let next = drop c.in_ok-word.next all in
    let item = words_item texts (drop c.list.at all) next c.in_ok-word.word (sym c.has_word_among.ensures ∙ c.list-test.true) c.in_ok-word.ensures in
    let e = prefix_item prefix c.in_ok-word.word (words_among texts (drop c.list.at all)) (words_among texts next) item in
    ap (λ z. with_prefix z (words_among texts next)) c.in_ok-push.ensures.items ∙ sym e ∙ c.list.invariant

pub returns : goal.returns
returns c =
    let all = all_of c.args.self.now in
    let texts = map (λ w. w.now) c.args.words.now in
    sym c.list.invariant ∙ prefix_done c.list.list.items (drop c.list.at all) (words_among texts (drop c.list.at all)) (words_done texts (drop c.list.at all) (sym c.has_word_among.ensures ∙ c.list-test.false))
