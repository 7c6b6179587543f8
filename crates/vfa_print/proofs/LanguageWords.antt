-- The words of the language are runs that are no numbers.
use Rattle.std.proofs.Common.{◌≡◌, ◌∙◌, ℕ, ◌<◌, ◌≤◌, ◌^◌, Bool, true, false, not, ◌&&◌, ◌||◌, List, [], ◌∷◌, codes, decimal, bytes_eq, refl, sym, ap, subst, arith}
use Rattle.std.specs.List.{list_all}
use Rattle.std.specs.Char.{is_ascii_alphabetic, is_ascii_digit}
use Rattle.std.proofs.lemmas.Slice.Eq.{bytes_eq-Decides}
use Rattle.std.proofs.lemmas.Fmt.{decimal_is_IsNumeral_wide}
use Rattle.std.specs.Str.{byte}
use Rattle.vfa_ir.specs.declared.operations.Bin.{Bin}
use Rattle.vfa_ir.specs.declared.operations.Cast.{Cast}
use Rattle.vfa_ir.specs.declared.operations.Pred.{Pred}
use Rattle.vfa_ir.specs.Grammar.{IsWidth}
use Rattle.vfa_ir.specs.Tokens.{is_run_byte}
use Rattle.vfa_ir.specs.Words.{is_among, is_in, is_number, type_word, bin_word, cast_word, pred_word, lead_words, parameter_words, call_words, flags_of, cast_flags_of}
use Rattle.vfa_print.proofs.Lexed.{IsRunWord}
use Rattle.vfa_print.proofs.SignedTexts.{all_digits}

and_parts : (a b : Bool) → (a && b) ≡ true → (a ≡ true) × (b ≡ true)
and_parts true b e = (refl, e)
and_parts false b e = cc

-- the test of a word
abbrev pub is_run_word : List ℕ → Bool
is_run_word [] = false
is_run_word (c ∷ cs) = list_all is_run_byte (c ∷ cs) && not (is_number (c ∷ cs))

pub run_word : (text : List ℕ) → is_run_word text ≡ true → IsRunWord text
run_word [] e = cc
run_word (c ∷ cs) e =
    let p = and_parts (list_all is_run_byte (c ∷ cs)) (not (is_number (c ∷ cs))) e in
    record { some = λ h. cc; runs = p.0; no_number = p.1 }

either_run :
    (t : Bool) (text one : List ℕ) (more : Bool) → bytes_eq text one ≡ t → IsRunWord one → (more ≡ true → IsRunWord text) →
    (t || more) ≡ true → IsRunWord text
either_run true text one more is run others e = let same : text ≡ one = (bytes_eq-Decides text one).0 is in subst IsRunWord (sym same) run
either_run false text one more is run others e = others e

pub among_run :
    (text : List ℕ) (texts : List (List ℕ)) → is_among text texts ≡ true → list_all is_run_word texts ≡ true →
    IsRunWord text
among_run text [] e all = cc
among_run text (one ∷ texts) e all =
    let p = and_parts (is_run_word one) (list_all is_run_word texts) all in
    either_run (bytes_eq text one) text one (is_among text texts) refl (run_word one p.0) (λ more. among_run text texts more p.1) e

lead_test : list_all is_run_word lead_words ≡ true
unfolding is_run_byte
lead_test = refl

pub lead_run : (text : List ℕ) → is_among text lead_words ≡ true → IsRunWord text
lead_run text e = among_run text lead_words e lead_test

parameter_test : list_all is_run_word parameter_words ≡ true
unfolding is_run_byte
parameter_test = refl

pub parameter_run : (text : List ℕ) → is_among text parameter_words ≡ true → IsRunWord text
parameter_run text e = among_run text parameter_words e parameter_test

call_test : list_all is_run_word call_words ≡ true
unfolding is_run_byte
call_test = refl

pub call_run : (text : List ℕ) → is_among text call_words ≡ true → IsRunWord text
call_run text e = among_run text call_words e call_test

flags_test : (bin : Bin) → list_all is_run_word (flags_of bin) ≡ true
unfolding is_run_byte
flags_test Bin.Add = refl
flags_test Bin.Sub = refl
flags_test Bin.Mul = refl
flags_test Bin.Shl = refl
flags_test Bin.Udiv = refl
flags_test Bin.Sdiv = refl
flags_test Bin.Lshr = refl
flags_test Bin.Ashr = refl
flags_test Bin.Urem = refl
flags_test Bin.Srem = refl
flags_test Bin.And = refl
flags_test Bin.Or = refl
flags_test Bin.Xor = refl

pub flag_run : (bin : Bin) (text : List ℕ) → is_among text (flags_of bin) ≡ true → IsRunWord text
flag_run bin text e = among_run text (flags_of bin) e (flags_test bin)

cast_flags_test : (cast : Cast) → list_all is_run_word (cast_flags_of cast) ≡ true
unfolding is_run_byte
cast_flags_test Cast.Zext = refl
cast_flags_test Cast.Sext = refl
cast_flags_test Cast.Trunc = refl

pub cast_flag_run : (cast : Cast) (text : List ℕ) → is_among text (cast_flags_of cast) ≡ true → IsRunWord text
cast_flag_run cast text e = among_run text (cast_flags_of cast) e (cast_flags_test cast)

bin_test : (bin : Bin) → is_run_word (bin_word bin) ≡ true
unfolding is_run_byte
bin_test Bin.Add = refl
bin_test Bin.Sub = refl
bin_test Bin.Mul = refl
bin_test Bin.Shl = refl
bin_test Bin.Udiv = refl
bin_test Bin.Sdiv = refl
bin_test Bin.Lshr = refl
bin_test Bin.Ashr = refl
bin_test Bin.Urem = refl
bin_test Bin.Srem = refl
bin_test Bin.And = refl
bin_test Bin.Or = refl
bin_test Bin.Xor = refl

pub bin_run : (bin : Bin) → IsRunWord (bin_word bin)
bin_run bin = run_word (bin_word bin) (bin_test bin)

pred_test : (pred : Pred) → is_run_word (pred_word pred) ≡ true
unfolding is_run_byte
pred_test Pred.Eq = refl
pred_test Pred.Ne = refl
pred_test Pred.Ugt = refl
pred_test Pred.Uge = refl
pred_test Pred.Ult = refl
pred_test Pred.Ule = refl
pred_test Pred.Sgt = refl
pred_test Pred.Sge = refl
pred_test Pred.Slt = refl
pred_test Pred.Sle = refl

pub pred_run : (pred : Pred) → IsRunWord (pred_word pred)
pred_run pred = run_word (pred_word pred) (pred_test pred)

cast_test : (cast : Cast) → is_run_word (cast_word cast) ≡ true
unfolding is_run_byte
cast_test Cast.Zext = refl
cast_test Cast.Sext = refl
cast_test Cast.Trunc = refl

pub cast_run : (cast : Cast) → IsRunWord (cast_word cast)
cast_run cast = run_word (cast_word cast) (cast_test cast)

-- words that stand in one production
abbrev pub fixed_words : List (List ℕ)
fixed_words = codes "define" ∷ codes "true" ∷ codes "false" ∷ codes "poison" ∷ codes "label" ∷ codes "phi" ∷ codes "call"
    ∷ codes "icmp" ∷ codes "samesign" ∷ codes "select" ∷ codes "to" ∷ codes "freeze" ∷ codes "extractvalue" ∷ codes "void" ∷ codes "ret"
    ∷ codes "br" ∷ codes "switch" ∷ codes "unreachable" ∷ []

fixed_test : list_all is_run_word fixed_words ≡ true
unfolding is_run_byte
fixed_test = refl

pub fixed_run : (text : List ℕ) → is_among text fixed_words ≡ true → IsRunWord text
fixed_run text e = among_run text fixed_words e fixed_test

-- `iN`
or_each : (a b : Bool) → (a || true || b) ≡ true
or_each true b = refl
or_each false b = refl

digit_run : (c : ℕ) → is_ascii_digit c ≡ true → is_run_byte c ≡ true
unfolding is_run_byte
digit_run c e = rw e (or_each (is_ascii_alphabetic c) (is_in c (codes "-$._")))

pub digit_runs : (ds : List ℕ) → list_all is_ascii_digit ds ≡ true → list_all is_run_byte ds ≡ true
digit_runs [] e = refl
digit_runs (c ∷ cs) e =
    let p = and_parts (is_ascii_digit c) (list_all is_ascii_digit cs) e in
    let a = digit_run c p.0 in
    let b = digit_runs cs p.1 in
    rw (a, b) refl

letter_run : is_run_byte 105 ≡ true
unfolding is_run_byte
letter_run = refl

pub type_run : (width : ℕ) → IsWidth width → IsRunWord (type_word width)
type_run width h =
    let most : width ≤ 128 = h.most in
    let small : width < 10 ^ 64 = omega arith in
    let digits = all_digits (decimal width) (decimal_is_IsNumeral_wide width small).0.1 in
    let runs : list_all is_run_byte (decimal width) ≡ true = digit_runs (decimal width) digits in
    let all : list_all is_run_byte (byte "i" ∷ decimal width) ≡ true = ap (λ b. b && list_all is_run_byte (decimal width)) letter_run ∙ runs in
    record { some = λ e. cc; runs = all; no_number = refl }
