-- The name of a define, and strings that are not closed.
use Rattle.std.proofs.Common.{◌≡◌, ℕ, zero, suc, ◌+◌, ◌-◌, ◌<◌, ◌≤◌, Bool, true, false, cond, List, [], ◌∷◌, length, take, drop, slice_get, Option, Some, None, refl, sym, ap, subst, arith, length-drop}
use Rattle.std.proofs.lemmas.List.Sums.{sum_by-cons}
use Rattle.std.specs.List.{AllByRecursion}
use Rattle.std.specs.Str.{byte}
use Rattle.vfa_ir.proofs.Reading.{more_of, tokens_in_order, tokens_placed}
use Rattle.vfa_ir.specs.Tokens.{AreInOrder, IsPlaced, token, has_colon, is_blank, or_label, piece_of, quoted, quoted_len}
use Rattle.vfa_ir.specs.declared.tokens.Token.{Token}
use Rattle.vfa_ir.specs.declared.tokens.TokenKind.{TokenKind}
use Rattle.vfa_module.proofs.Levels.{one_if}
use Rattle.vfa_module.proofs.OneSplit.{all_at, word_inside}
use Rattle.vfa_module.specs.Defines.{HasName, IsDefine, global_count, line_at, tokens_at}
use Rattle.vfa_module.specs.Split as spec

-- where a global name stands among the first tokens
record Named (ts : List Token) (n : ℕ) : Type 0 where
  place : ℕ
  name : Token
  inside : place < n
  there : slice_get ts place ≡ Some name
  kind : spec.is_global name.kind ≡ true

named_in : (ts : List Token) (n : ℕ) → 0 < global_count (take n ts) → Named ts n
named_in ts zero some = absurd (omega arith)
named_in [] (suc n) some = absurd (omega arith)
named_in (t ∷ ts) (suc n) some =
    by_kind (spec.is_global t.kind) refl (subst (λ k. 0 < k) (sum_by-cons (λ u. one_if (spec.is_global u.kind)) t (take n ts)) some)
    (named_in ts n)
  where
    by_kind :
        (b : Bool) → spec.is_global t.kind ≡ b → 0 < one_if b + global_count (take n ts) →
        (0 < global_count (take n ts) → Named ts n) → Named (t ∷ ts) (suc n)
    by_kind true is some later = record { place = 0; name = t; inside = omega arith; there = refl; kind = is }
    by_kind false is some later =
        let found = later (omega arith) in
        record { place = suc found.place; name = found.name; inside = let i = found.inside in omega arith; there = found.there; kind = found.kind }

-- tokens in order: each ends before a later one begins
later_begins :
    (text : List ℕ) (place line from : ℕ) (ts : List Token) (i : ℕ) (t : Token) → AllByRecursion (IsPlaced text place line) ts →
    AreInOrder from ts → slice_get ts i ≡ Some t → from ≤ t.start
later_begins text place line from [] i t all order e = absurd (cc)
later_begins text place line from (u ∷ ts) zero t all order e =
    let same : u ≡ t = (cc) in
    let first : from ≤ u.start = order.0 in
    subst (λ (v : Token). from ≤ v.start) same first
later_begins text place line from (u ∷ ts) (suc i) t all order e =
    let some = all.0.some in
    let first : from ≤ u.start = order.0 in
    let later : u.end ≤ t.start = later_begins text place line u.end ts i t all.1 order.1 e in
    omega arith

ends_before :
    (text : List ℕ) (place line from : ℕ) (ts : List Token) (i j : ℕ) (t u : Token) →
    AllByRecursion (IsPlaced text place line) ts → AreInOrder from ts → i < j → slice_get ts i ≡ Some t →
    slice_get ts j ≡ Some u → t.end ≤ u.start
ends_before text place line from [] i j t u all order less e f = absurd (cc)
ends_before text place line from (v ∷ ts) i zero t u all order less e f = absurd (omega arith)
ends_before text place line from (v ∷ ts) zero (suc j) t u all order less e f =
    let same : v ≡ t = (cc) in
    let later : v.end ≤ u.start = later_begins text place line v.end ts j u all.1 order.1 f in
    subst (λ (w : Token). w.end ≤ u.start) same later
ends_before text place line from (v ∷ ts) (suc i) (suc j) t u all order less e f =
    ends_before text place line v.end ts i j t u all.1 order.1 (omega arith) e f

pub define_named : (text : List ℕ) (start end line : ℕ) → IsDefine text start end line → HasName text start end
define_named text start end line d =
    let c = d.closes in
    let inside : start < length text = word_inside text start d.begins in
    let ts : List Token = tokens_at text start in
    let all = tokens_placed text start (line_at text start) (omega arith) in
    let order = tokens_in_order text start (line_at text start) in
    let named = named_in (tokens_at text start) c.opening c.opens.has.named in
    let earlier = named.inside in
    let after = c.level.has.after in
    let name = all_at _ _ named.place named.name all named.there in
    let brace = all_at _ _ c.closing d.brace all c.token in
    let some = brace.some in
    let ends : d.brace.end ≡ end = d.ends in
    let before : named.name.end ≤ d.brace.start =
    ends_before text start (line_at text start) start (tokens_at text start) named.place c.closing named.name d.brace all order
    (omega arith) named.there c.token in
    record {
      place = named.place;
      name = named.name;
      token = named.there;
      kind = named.kind;
      after = name.after;
      before = omega arith;
    }

quoted_rest : (rest : List ℕ) (n : ℕ) → piece_of (byte "\"") rest ≡ token TokenKind.Other n → n ≡ length rest
unfolding piece_of is_blank quoted or_label
quoted_rest rest n e = by_quote (quoted_len rest) e
  where
    by_quote :
        (o : Option ℕ) →
        (elim o [ None ↦ token TokenKind.Other (length rest) | Some m ↦ or_label TokenKind.String m rest ]) ≡ token TokenKind.Other n →
        n ≡ length rest
    by_quote None e = sym (ap more_of e)
    by_quote (Some m) e = absurd (by_colon (has_colon m rest) e)
      where
        by_colon :
            (b : Bool) → cond b (token TokenKind.Label (m + 1)) (token TokenKind.String m) ≡ token TokenKind.Other n → ⊥
        by_colon true e = cc
        by_colon false e = cc

pub string_to_end :
    (text : List ℕ) (from line : ℕ) (t : Token) → IsPlaced text from line t → spec.first_byte text t ≡ byte "\"" →
    t.kind ≡ TokenKind.Other → t.end ≡ length text
string_to_end text from line t p quote other =
    let piece = p.piece in
    let there : piece_of (byte "\"") (drop (t.start + 1) text) ≡ token TokenKind.Other (t.end - (t.start + 1)) = (rw (quote, other) at piece) in
    let rest : t.end - (t.start + 1) ≡ length (drop (t.start + 1) text) = quoted_rest (drop (t.start + 1) text) (t.end - (t.start + 1)) there in
    let long : length (drop (t.start + 1) text) ≡ length text - (t.start + 1) = length-drop (t.start + 1) text in
    let some = p.some in
    let within = p.within in
    omega arith
