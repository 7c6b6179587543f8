-- The tree of a function, read part by part.
use Rattle.std.proofs.Common.{◌≡◌, ◌≤◌, ◌<◌, ◌+◌, ℕ, zero, suc, List, [], ◌∷◌, length, drop, Result, Ok, Err, IsErrAnd, IfErr, inl, inr, refl, sym, ap, ◌∙◌, subst, arith, length-append, length-drop}
use Rattle.std.proofs.Math.ListN.{drop_of_length-le}
use Rattle.vfa_ir.specs.declared.syntax.BasicBlock.{BasicBlock}
use Rattle.vfa_ir.specs.Lexemes.{Lexeme}
use Rattle.vfa_ir.specs.Reads.{StopsAt}
use Rattle.vfa_ir.specs.Spelling as spell
use Rattle.vfa_read.specs.declared.headers.FunctionHeader.{FunctionHeader}
use Rattle.vfa_read.specs.declared.sentences.FunctionTree.{FunctionTree}
use Rattle.vfa_read.specs.declared.stops.Stop.{Stop}
use Rattle.vfa_read.specs.Headers as read
use Rattle.vfa_read.specs.Readers.{Reader, Gives, made, ◌>>=◌}
use Rattle.vfa_read.specs.Trees.{between, header_of, blocks_of, tree_sentence, GivesEnd, Begins, GivesTree, IsTree, IsStop}
use Rattle.vfa_read.proofs.Exact.{made_err, ok_value, ok_rest}
use Rattle.vfa_read.proofs.HeaderReaders.{header_exact}
use Rattle.vfa_read.proofs.SentenceReader.{body_exact, sentence_exact, is_sentence, stops_after, stops_before, unfinished}
use Rattle.vfa_read.proofs.TailReader.{tail_exact}
use Rattle.vfa_read.proofs.Outcomes.{err_ok}

nil_cons : {l : Lexeme} {ls : List Lexeme} → [] ≡ l ∷ ls → ⊥
nil_cons e = cc

-- what a value was made from
record From {A B : Type 0} (f : A → B) (r : Reader A) (ts rest : List Lexeme) (y : B) : Type 0 where
  from : A
  is : f from ≡ y
  reads : r ts ≡ Ok (from, rest)

module _ {A B : Type 0} (f : A → B) (r : Reader A) (ts rest : List Lexeme) (y : B) where
  from_made : made f r ts ≡ Ok (y, rest) → From f r ts rest y
  from_made e = by_read (r ts) refl
    where
      by_read : (k : Result (A × List Lexeme) ℕ) → r ts ≡ k → From f r ts rest y
      by_read (Ok p) q =
          let same : ◌≡◌ {A = Result (B × List Lexeme) ℕ} (Ok (f p.0, p.1)) (Ok (y, rest)) = ap (λ z. z >>= λ p. Ok (f p.0, p.1)) (sym q) ∙ e in
          record { from = p.0; is = ok_value (f p.0, p.1) (y, rest) same; reads = q ∙ ap (λ z. Ok (p.0, z)) (ok_rest (f p.0, p.1) (y, rest) same) }
      by_read (Err n) q =
          let no : ◌≡◌ {A = Result (B × List Lexeme) ℕ} (Err n) (Ok (y, rest)) = ap (λ z. z >>= λ p. Ok (f p.0, p.1)) (sym q) ∙ e in
          absurd (err_ok no)

within : (at : ℕ) (all : List Lexeme) (l : Lexeme) (ls : List Lexeme) → drop at all ≡ l ∷ ls → at < length all
within zero [] l ls e = absurd (nil_cons e)
within (suc at) [] l ls e = absurd (nil_cons e)
within zero (x ∷ xs) l ls e = omega arith
within (suc at) (x ∷ xs) l ls e = let h = within at xs l ls e in omega arith

module _ (all : List Lexeme) (t : FunctionTree) (at : ℕ)
    (h : made header_of read.header all ≡ Ok (t.header, drop t.tail_start all))
    (order : t.tail_start ≤ t.tail_end)
    (m : read.tail_from 0 (drop t.tail_start all) ≡ Ok (between t.tail_start t.tail_end all, drop t.tail_end all))
    (b : made blocks_of read.body (drop t.tail_end all) ≡ Ok (t.blocks, drop at all)) where
  a : From header_of read.header all (drop t.tail_start all) t.header
  a = from_made header_of read.header all (drop t.tail_start all) t.header h

  c : From blocks_of read.body (drop t.tail_end all) (drop at all) t.blocks
  c = from_made blocks_of read.body (drop t.tail_end all) (drop at all) t.blocks b

  parts : read.sentence all ≡ Ok (read.sentence_of (a.from, (between t.tail_start t.tail_end all, c.from)), drop at all)
  unfolding read.sentence
  parts = let x = a.reads in let y = c.reads in rw (x, m, y) refl

  same : read.sentence_of (a.from, (between t.tail_start t.tail_end all, c.from)) ≡ tree_sentence all t
  same =
      ap (λ z. record { lead = z.lead; width = z.width; name = z.name; parameters = z.parameters; tail = between t.tail_start t.tail_end all; blocks = blocks_of c.from }) a.is
      ∙ ap (λ z. record { lead = t.header.lead; width = t.header.width; name = t.header.name; parameters = t.header.parameters; tail = between t.tail_start t.tail_end all; blocks = z }) c.is

  inside : t.tail_end < length all
  inside = within t.tail_end all _ _ (body_exact.sound (drop t.tail_end all) (drop at all) c.from c.reads)

  header_size : t.tail_start ≡ length (spell.header (tree_sentence all t))
  header_size =
      let s = header_exact.sound all (drop t.tail_start all) a.from a.reads in
      let sizes = ap length s in
      let spelled = spell.header (read.sentence_of (a.from, (between t.tail_start t.tail_end all, c.from))) in
      let this : t.tail_start ≡ length spelled = omega (arith, inside, order, length-append spelled (drop t.tail_start all), length-drop t.tail_start all) in
      this ∙ ap (λ z. length (spell.header z)) same

  tail_size : t.tail_start + length (between t.tail_start t.tail_end all) ≡ t.tail_end
  tail_size =
      let s = (tail_exact 0).sound (drop t.tail_start all) (drop t.tail_end all) (between t.tail_start t.tail_end all) m in
      let sizes = ap length s in
      omega (arith, inside, order, length-append (between t.tail_start t.tail_end all) (drop t.tail_end all), length-drop t.tail_start all, length-drop t.tail_end all)

  pub begins : Begins all t at
  begins = record { reads = parts ∙ ap (λ z. Ok (z, drop at all)) same; start = header_size; tail = tail_size }

-- where a part stops, the whole stops

pub tree_error : (all : List Lexeme) (e : Stop) (r : Result (FunctionTree × ℕ) Stop) → IsErrAnd r (λ y. y ≡ e) → GivesTree all (Err e) → GivesTree all r
tree_error all e (Ok x) h g = elim h [ ]
tree_error all e (Err y) h g = subst (λ z. GivesTree all (Err z)) (sym h) g

pub header_stops : (all : List Lexeme) (e : Stop) → Gives {A = FunctionHeader} all (Err e) (made header_of read.header all) → GivesTree all (Err e)
unfolding read.sentence
header_stops all (Stop.At place) g = let x = made_err (read.header all) (λ p. (header_of p.0, p.1)) (length (drop place all)) g in rw x refl
header_stops all Stop.Memory g = tt

pub tail_stops : (all : List Lexeme) (e : Stop) (header : FunctionHeader) (start : ℕ) → made header_of read.header all ≡ Ok (header, drop start all) → GivesEnd start all (Err e) (read.tail_from 0 (drop start all)) → GivesTree all (Err e)
unfolding read.sentence
tail_stops all (Stop.At place) header start h g = let x = (from_made header_of read.header all (drop start all) header h).reads in rw (x, g) refl
tail_stops all Stop.Memory header start h g = tt

pub body_stops : (all : List Lexeme) (e : Stop) (header : FunctionHeader) (start end : ℕ) → made header_of read.header all ≡ Ok (header, drop start all) → read.tail_from 0 (drop start all) ≡ Ok (between start end all, drop end all) → Gives {A = List BasicBlock} all (Err e) (made blocks_of read.body (drop end all)) → GivesTree all (Err e)
unfolding read.sentence
body_stops all (Stop.At place) header start end h m g =
    let x = (from_made header_of read.header all (drop start all) header h).reads in
    let y = made_err (read.body (drop end all)) (λ p. (blocks_of p.0, p.1)) (length (drop place all)) g in
    rw (x, m, y) refl
body_stops all Stop.Memory header start end h m g = tt

-- whether all lexemes are the sentence

pub whole_tree : (all : List Lexeme) (t : FunctionTree) (at : ℕ) → length all ≤ at → Begins all t at → IsTree all t
whole_tree all t at h b =
    let none : drop at all ≡ [] = drop_of_length-le all h in
    record { is = is_sentence all (tree_sentence all t) (b.reads ∙ ap (λ z. Ok (tree_sentence all t, z)) none); start = b.start; tail = b.tail }

more_after : (at : ℕ) (all : List Lexeme) → at < length all → (l : Lexeme) × (ls : List Lexeme) × (drop at all ≡ l ∷ ls)
more_after at [] h = absurd (omega arith)
more_after zero (x ∷ xs) h = (x, xs, refl)
more_after (suc at) (x ∷ xs) h = more_after at xs (omega arith)

pub more_stops : (all : List Lexeme) (t : FunctionTree) (at : ℕ) → at < length all → Begins all t at → IsStop all (Stop.At at)
more_stops all t at h b =
    let k = more_after at all h in
    let s = tree_sentence all t in
    let e : read.sentence all ≡ Ok (s, k.0 ∷ k.1) = b.reads ∙ ap (λ z. Ok (s, z)) k.2 in
    let sizes = ap length (sentence_exact.sound all (drop at all) s b.reads) in
    let here : length (spell.spelling s) ≡ at = omega (arith, h, length-append (spell.spelling s) (drop at all), length-drop at all) in
    inl (subst (StopsAt all) here (stops_after all s k.0 k.1 e))

pub stop_is : (all : List Lexeme) (e : Stop) → GivesTree all (Err e) → IsStop all e
stop_is all Stop.Memory g = tt
stop_is all (Stop.At place) g = by_size (length (drop place all)) refl
  where
    by_size : (n : ℕ) → length (drop place all) ≡ n → IsStop all (Stop.At place)
    by_size zero e =
        let size = length-drop place all in
        inr (omega (arith, size), unfinished all (g ∙ ap Err e))
    by_size (suc n) e =
        let size = length-drop place all in
        inl (stops_before all n place (omega (arith, size)) (g ∙ ap Err e))

pub stop_error : (all : List Lexeme) (e : Stop) (r : Result FunctionTree Stop) → IsErrAnd r (λ y. y ≡ e) → IsStop all e → IfErr r (λ y. IsStop all y)
stop_error all e (Ok x) h s = elim h [ ]
stop_error all e (Err y) h s = subst (IsStop all) (sym h) s
