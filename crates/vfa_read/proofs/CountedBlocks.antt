-- The lines of the items of blocks, where blocks are read one after another.
use Rattle.std.proofs.Common.{◌≡◌, ℕ, suc, ◌+◌, List, [], ◌∷◌, ◌++◌, Option, Result, Ok, Err, IfOk, length, map, flat_map, drop, get_or, refl, sym, ap, ◌∙◌, append_assoc, append-nil, length-append, arith}
use Rattle.std.proofs.lemmas.List.{drop-drop}
use Rattle.std.proofs.lemmas.Grind.{flat_map-append}
use Rattle.std.specs.Str.{byte}
use Rattle.vfa_ir.specs.declared.syntax.BasicBlock.{BasicBlock}
use Rattle.vfa_ir.specs.declared.syntax.Terminator.{Terminator}
use Rattle.vfa_ir.specs.Lexemes.{Lexeme, mark}
use Rattle.vfa_ir.specs.Spelling as spell
use Rattle.vfa_ir.specs.TextLines.{block_lines, first_lines, item_lengths}
use Rattle.vfa_read.specs.declared.lines.BlockLines.{BlockLines}
use Rattle.vfa_read.specs.declared.source.Source.{Source}
use Rattle.vfa_read.specs.declared.stops.Stop.{Stop}
use Rattle.vfa_read.specs.Items.{block_numbers, line_lengths}
use Rattle.vfa_read.specs.Productions as read
use Rattle.vfa_read.specs.Productions.{block_labelled, block_of, block_rest}
use Rattle.vfa_read.specs.Readers.{Gives, Reader, made}
use Rattle.vfa_read.specs.Seen.{all_of, line_numbers}
use Rattle.vfa_read.proofs.BlockReaders.{block_lines_exact, block_lines_spelling}
use Rattle.vfa_read.proofs.Exact.{bind_ok, ok_value}
use Rattle.vfa_read.proofs.ItemLines.{Counted, counted_last, moved, total}

total_append : (ns ms : List ℕ) → total (ns ++ ms) ≡ total ns + total ms
total_append [] ms = omega arith
total_append (n ∷ ns) ms = ap (λ z. n + z) (total_append ns ms) ∙ omega arith

length_all : {X : Type 0} (f : X → List Lexeme) (xs : List X) → length (flat_map f xs) ≡ total (map (λ x. length (f x)) xs)
length_all f [] = refl
length_all f (x ∷ xs) = length-append (f x) (flat_map f xs) ∙ ap (λ n. length (f x) + n) (length_all f xs)

total_spelled : (b : BlockLines) → length (block_lines_spelling b) ≡ total (line_lengths b)
total_spelled b =
    let phis = flat_map spell.phi b.phis in
    let instructions = flat_map spell.instruction b.instructions in
    length-append phis instructions
    ∙ ap (λ n. n + length instructions) (length_all spell.phi b.phis)
    ∙ ap (λ n. total (map (λ p. length (spell.phi p)) b.phis) + n) (length_all spell.instruction b.instructions)
    ∙ sym (total_append (map (λ p. length (spell.phi p)) b.phis) (map (λ i. length (spell.instruction i)) b.instructions))

-- a block after its label
pub block_counted :
    (s : Source) (from at : ℕ) (b : BlockLines) (t : Terminator) (name : Option (List ℕ)) (numbers : List ℕ) →
    read.block_lines (drop from (all_of s)) ≡ Ok (b, drop at (all_of s)) → numbers ≡ first_lines (line_lengths b) (drop from (line_numbers s)) →
    numbers ++ get_or (line_numbers s) at 0 ∷ [] ≡ first_lines (item_lengths (block_of (name, (b, t)))) (drop from (line_numbers s))
block_counted s from at b t name numbers found are =
    let start = drop from (line_numbers s) in
    let sound = block_lines_exact.sound (drop from (all_of s)) (drop at (all_of s)) b found in
    let place = moved s from at (block_lines_spelling b) sound ∙ ap (λ n. drop n start) (total_spelled b) in
    let c : Counted s from at [] numbers b = record { are = are; place = place } in
    let n = length (spell.terminator t) in
    counted_last s from at numbers b c n
    ∙ ap (λ ns. first_lines ns start) (append_assoc (map (λ p. length (spell.phi p)) b.phis) (map (λ i. length (spell.instruction i)) b.instructions) (n ∷ []))

-- the label that a block was made with
labelled_is : (name : Option (List ℕ)) (ts rest : List Lexeme) (b : BasicBlock) → made (block_labelled name) block_rest ts ≡ Ok (b, rest) → name ≡ b.label
labelled_is name ts rest b e =
    let m = bind_ok (block_rest ts) (λ p. Ok (block_labelled name p.0, p.1)) (b, rest) e in
    ap (λ z. z.label) (ok_value (block_labelled name m.first.0, m.first.1) (b, rest) m.then_is)

pub labelled_counted :
    (s : Source) (at next : ℕ) (name : Option (List ℕ)) (b : BasicBlock) (rest : List Lexeme) →
    drop at (all_of s) ≡ spell.block_label name ++ drop next (all_of s) → made (block_labelled name) block_rest (drop next (all_of s)) ≡ Ok (b, rest) →
    first_lines (item_lengths b) (drop next (line_numbers s)) ≡ block_numbers b (drop at (line_numbers s))
labelled_counted s at next name b rest before found =
    ap (first_lines (item_lengths b)) (moved s at next (spell.block_label name) before
    ∙ ap (λ z. drop (length (spell.block_label z)) (drop at (line_numbers s))) (labelled_is name (drop next (all_of s)) rest b found))

-- the same of what a block is read by
pub labelled_result :
    (s : Source) (at next : ℕ) (name : Option (List ℕ)) (r : Result (BasicBlock × ℕ) Stop) (old new : List (List ℕ)) →
    drop at (all_of s) ≡ spell.block_label name ++ drop next (all_of s) → Gives (all_of s) r (made (block_labelled name) block_rest (drop next (all_of s))) →
    IfOk r (λ p. new ≡ old ++ first_lines (item_lengths p.0) (drop next (line_numbers s)) ∷ []) →
    IfOk r (λ p. new ≡ old ++ block_numbers p.0 (drop at (line_numbers s)) ∷ [])
labelled_result s at next name (Ok p) old new before found lines =
    lines ∙ ap (λ z. old ++ z ∷ []) (labelled_counted s at next name p.0 (drop p.1 (all_of s)) before found)
labelled_result s at next name (Err e) old new before found lines = tt

-- blocks after a first one

pub record BlocksCounted (s : Source) (from at : ℕ) (old lines : List (List ℕ)) (first : BasicBlock) (list : List BasicBlock) : Type 0 where
  pub others : List BasicBlock
  pub is : list ≡ first ∷ others
  pub are : lines ≡ old ++ block_lines others (drop from (line_numbers s))
  pub place : drop at (line_numbers s) ≡ drop (length (flat_map spell.block others)) (drop from (line_numbers s))

pub none_counted : (s : Source) (from : ℕ) (old : List (List ℕ)) (first : BasicBlock) (list : List BasicBlock) → list ≡ first ∷ [] → BlocksCounted s from from old old first list
none_counted s from old first list is = record { others = []; is = is; are = sym (append-nil old); place = refl }

blocks_more : (bs : List BasicBlock) (b : BasicBlock) (numbers : List ℕ) →
    block_lines (bs ++ b ∷ []) numbers ≡ block_lines bs numbers ++ block_numbers b (drop (length (flat_map spell.block bs)) numbers) ∷ []
blocks_more [] b numbers = refl
blocks_more (x ∷ bs) b numbers =
    let rest = drop (length (spell.block x)) numbers in
    let far : drop (length (flat_map spell.block bs)) rest ≡ drop (length (flat_map spell.block (x ∷ bs))) numbers =
    drop-drop (length (flat_map spell.block bs)) (length (spell.block x)) numbers
    ∙ ap (λ n. drop n numbers) (sym (length-append (spell.block x) (flat_map spell.block bs))) in
    ap (λ z. block_numbers x numbers ∷ z) (blocks_more bs b rest ∙ ap (λ z. block_lines bs rest ++ block_numbers b z ∷ []) far)

pub blocks_counted :
    (s : Source) (from at next : ℕ) (old lines after : List (List ℕ)) (first : BasicBlock) (list longer : List BasicBlock) (b : BasicBlock) →
    BlocksCounted s from at old lines first list → drop at (all_of s) ≡ spell.block b ++ drop next (all_of s) →
    after ≡ lines ++ block_numbers b (drop at (line_numbers s)) ∷ [] → longer ≡ list ++ b ∷ [] →
    BlocksCounted s from next old after first longer
blocks_counted s from at next old lines after first list longer b c read pushed grown =
    let start = drop from (line_numbers s) in
    let os = c.others in
    let here = drop at (line_numbers s) in
    record {
      others = os ++ b ∷ [];
      is = grown ∙ ap (λ z. z ++ b ∷ []) c.is;
      are = pushed ∙ ap (λ z. z ++ block_numbers b here ∷ []) c.are ∙ append_assoc old (block_lines os start) (block_numbers b here ∷ [])
          ∙ ap (λ z. old ++ (block_lines os start ++ block_numbers b z ∷ [])) c.place ∙ ap (λ z. old ++ z) (sym (blocks_more os b start));
      place = moved s at next (spell.block b) read ∙ ap (drop (length (spell.block b))) c.place
          ∙ drop-drop (length (spell.block b)) (length (flat_map spell.block os)) start
          ∙ ap (λ n. drop n start) (sym (ap length (flat_map-append spell.block os (b ∷ []) ∙ ap (λ z. flat_map spell.block os ++ z) (append-nil (spell.block b)))
          ∙ length-append (flat_map spell.block os) (spell.block b)));
    }

pub counted_others : (s : Source) (from at : ℕ) (old lines : List (List ℕ)) (first : BasicBlock) (list : List BasicBlock) → BlocksCounted s from at old lines first list →
    lines ≡ old ++ block_lines (drop 1 list) (drop from (line_numbers s))
counted_others s from at old lines first list c = c.are ∙ ap (λ z. old ++ block_lines (drop 1 z) (drop from (line_numbers s))) (sym c.is)

-- what was put after a first block
pub others_of : (r : Reader (List BasicBlock)) (first : BasicBlock) (ts rest : List Lexeme) (list : List BasicBlock) → made (λ more. first ∷ more) r ts ≡ Ok (list, rest) →
    (others : List BasicBlock) × (list ≡ first ∷ others)
others_of r first ts rest list e =
    let m = bind_ok (r ts) (λ p. Ok (first ∷ p.0, p.1)) (list, rest) e in
    (m.first.0, sym (ok_value (first ∷ m.first.0, m.first.1) (list, rest) m.then_is))

-- the body
pub body_counted :
    (s : Source) (at inside next : ℕ) (old entry lines : List (List ℕ)) (first : BasicBlock) (list others : List BasicBlock) →
    drop at (all_of s) ≡ mark (byte "{") ∷ drop inside (all_of s) → drop inside (all_of s) ≡ spell.block first ++ drop next (all_of s) →
    entry ≡ old ++ block_numbers first (drop inside (line_numbers s)) ∷ [] → lines ≡ entry ++ block_lines (drop 1 list) (drop next (line_numbers s)) → list ≡ first ∷ others →
    lines ≡ old ++ block_lines list (drop (suc at) (line_numbers s))
body_counted s at inside next old entry lines first list others brace read one more is =
    let all = line_numbers s in
    let next_one : at + 1 ≡ suc at = omega arith in
    let start : drop inside all ≡ drop (suc at) all = moved s at inside (mark (byte "{") ∷ []) brace ∙ drop-drop 1 at all ∙ ap (λ n. drop n all) next_one in
    let later = moved s inside next (spell.block first) read in
    let here = drop inside all in
    more ∙ ap (λ z. z ++ block_lines (drop 1 list) (drop next all)) one
    ∙ append_assoc old (block_numbers first here ∷ []) (block_lines (drop 1 list) (drop next all))
    ∙ ap (λ z. old ++ (block_numbers first here ∷ block_lines (drop 1 z) (drop next all))) is
    ∙ ap (λ z. old ++ (block_numbers first here ∷ block_lines others z)) later
    ∙ ap (λ z. old ++ block_lines (first ∷ others) z) start
    ∙ ap (λ z. old ++ block_lines z (drop (suc at) all)) (sym is)
