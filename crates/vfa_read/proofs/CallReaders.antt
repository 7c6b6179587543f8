-- Reading a call, after the word `call`, is exact.
use Rattle.std.proofs.Common.{◌≡◌, ℕ, Bool, true, false, not, cond, IsTrue, List, [], ◌∷◌, ◌++◌, map, find, flat_map, length, ◌<◌, All, option_map, Option, Some, None, Ok, Err, ◌⊎◌, ⊎_elim, bytes_eq, codes, refl, sym, ap, ◌∙◌, subst, append_assoc}
use Rattle.std.specs.List.{join_by}
use Rattle.std.specs.Str.{byte}
use Rattle.vfa_ir.specs.declared.operations.Fun1.{Fun1}
use Rattle.vfa_ir.specs.declared.operations.Fun2.{Fun2}
use Rattle.vfa_ir.specs.declared.operations.Over.{Over}
use Rattle.vfa_ir.specs.declared.syntax.Literal.{Literal}
use Rattle.vfa_ir.specs.declared.syntax.Operation.{Operation}
use Rattle.vfa_ir.specs.declared.syntax.Written.{Written}
use Rattle.vfa_ir.specs.declared.syntax.Argument.{Argument}
use Rattle.vfa_ir.specs.Lexemes.{Lexeme, local, global, group, number, word, mark}
use Rattle.vfa_ir.specs.Grammar.{AreWords, FitsArgument, IsWidth, FitsValue, FitsLiteral, FitsStrict}
use Rattle.vfa_ir.specs.Spelling as spell
use Rattle.vfa_ir.specs.Words.{call_words, callee, fun1_word, fun2_word, is_intrinsic, over_word, overs, parameter_words}
use Rattle.vfa_read.specs.declared.intrinsics.Callee.{Callee}
use Rattle.vfa_read.specs.declared.intrinsics.Intrinsic.{Intrinsic}
use Rattle.vfa_read.specs.declared.intrinsics.VoidCallee.{VoidCallee}
use Rattle.vfa_read.specs.Productions.{is_any_word, is_group, is_word_among, groups, same_state, typed_operands, arguments, strict_argument, argument, argument_of, assume_call, two_of, two_call, one_of, one_call, call_argument, call_arguments, callee_call, comma_list, last_of, named_call, named_of, other_call, other_of, plain_call, over_of, over_call, pair_type, call, assume_of, is_mark, void_call, void_callee_call, void_named, void_of, words_among}
use Rattle.vfa_read.specs.Readers.{Reader, one, nothing, after, made, skip, ended, many, next_passes, ◌>>=◌}
use Rattle.vfa_read.specs.Tables.{the_mark, the_word, the_type, type_of, value_of, literal_of, group_digits, intrinsic_in, intrinsic_word, intrinsics, callee_after, callee_in, known_callee, known_void, void_after}
use Rattle.vfa_read.proofs.Exact.{Exact, Made, anything, may, may_anything, one_exact, nothing_exact, after_exact, made_exact, choose_exact, skip_exact, ended_exact, fits_exact, spelled_exact}
use Rattle.vfa_read.proofs.LeafReaders.{first_or, mapped, some_is, mark_exact, word_exact, group_exact, type_exact, value_exact, literal_exact}
use Rattle.vfa_read.proofs.Many.{Begins, FitsFrom, many_exact, many_item, many_bad, many_done, shorter}
use Rattle.vfa_read.proofs.FormReaders.{one_wide, FitsTwo, group_follow, op_follow, the_type_exact, typed_operands_exact, pair_type_exact, typed_exact}
use Rattle.vfa_read.proofs.Words.{tested, same_text, same_itself, not_parts}
use Rattle.vfa_read.proofs.CommaLists.{comma_list_exact, commas_close, commas_follow}
use Rattle.vfa_read.proofs.WordLists.{no_letter, no_word_follows, words_exact, words_follow}

-- attribute groups

group_begins : (s : Unit {0}) (x : List ℕ) → Unit {0} → Begins is_group (group x ∷ [])
group_begins s x f = record { head = group x; more = []; is = refl; passes = refl }

each_alone : {A : Type 0} (f : A → Lexeme) (xs : List A) → flat_map (λ x. f x ∷ []) xs ≡ map f xs
each_alone f [] = refl
each_alone f (x ∷ xs) = ap (λ z. f x ∷ z) (each_alone f xs)

all_fit : (xs : List (List ℕ)) → FitsFrom {S = Unit {0}} (λ _ _. Unit {0}) same_state tt xs
all_fit [] = tt
all_fit (x ∷ xs) = (tt, all_fit xs)

pub groups_exact : Exact groups (map group) (λ _. Unit {0}) group_follow
unfolding groups
groups_exact = spelled_exact (many is_group (λ _. one group_digits) same_state tt) (flat_map (λ x. group x ∷ [])) (map group) (λ _. Unit {0}) group_follow
    (fits_exact (many is_group (λ _. one group_digits) same_state tt) (flat_map (λ x. group x ∷ [])) (FitsFrom (λ _ _. Unit {0}) same_state tt) (λ _. Unit {0}) group_follow
    (many_exact is_group (λ _. one group_digits) same_state (λ x. group x ∷ []) (λ _ _. Unit {0}) anything (λ _. group_exact) group_begins (λ x l e. refl) tt)
    (λ x f. tt) (λ x f. all_fit x))
    (λ xs f. each_alone group xs)

pub groups_done : (ts : List Lexeme) → next_passes is_group ts ≡ false → groups ts ≡ Ok ([], ts)
unfolding groups
groups_done ts t = many_done is_group (λ _. one group_digits) same_state (λ x. group x ∷ []) (λ _ _. Unit {0}) anything (λ _. group_exact) group_begins (λ x l e. refl) tt ts t

pub groups_item : (ts rest : List Lexeme) (x : List ℕ) → next_passes is_group ts ≡ true → one group_digits ts ≡ Ok (x, rest) → groups ts ≡ (groups rest >>= λ q. Ok (x ∷ q.0, q.1))
unfolding groups
groups_item ts rest x t e = many_item is_group (λ _. one group_digits) same_state (λ x. group x ∷ []) (λ _ _. Unit {0}) anything (λ _. group_exact) group_begins (λ x l e. refl) tt ts rest x t e

pub groups_bad : (ts : List Lexeme) (k : ℕ) → next_passes is_group ts ≡ true → one group_digits ts ≡ Err k → groups ts ≡ Err k
unfolding groups
groups_bad ts k t e = many_bad is_group (λ _. one group_digits) same_state (λ x. group x ∷ []) (λ _ _. Unit {0}) anything (λ _. group_exact) group_begins (λ x l e. refl) tt ts k t e

pub group_shorter : (ts rest : List Lexeme) (x : List ℕ) → one group_digits ts ≡ Ok (x, rest) → length rest < length ts
group_shorter ts rest x e = shorter is_group (λ _. one group_digits) same_state (λ x. group x ∷ []) (λ _ _. Unit {0}) anything (λ _. group_exact) group_begins (λ x l e. refl) tt ts rest x e

-- arguments

pub arguments_exact : (w : ℕ) → IsWidth w → Exact (arguments w) (λ p. mark (byte "(") ∷ ((spell.typed w p.0 ++ (mark (byte ",") ∷ spell.typed w p.1)) ++ (mark (byte ")") ∷ []))) (FitsTwo w) anything
arguments_exact w h = skip_exact (the_mark (byte "(")) (mark (byte "(")) (skip (the_type w) (ended (typed_operands w) (the_mark (byte ")"))))
    (λ p. (spell.typed w p.0 ++ (mark (byte ",") ∷ spell.typed w p.1)) ++ (mark (byte ")") ∷ [])) (FitsTwo w) anything (mark_exact (byte "("))
    (skip_exact (the_type w) (spell.type w) (ended (typed_operands w) (the_mark (byte ")")))
    (λ p. (spell.value p.0 ++ (mark (byte ",") ∷ spell.typed w p.1)) ++ (mark (byte ")") ∷ [])) (FitsTwo w) anything (the_type_exact w h)
    (ended_exact (typed_operands w) (the_mark (byte ")")) (mark (byte ")")) (λ p. spell.value p.0 ++ (mark (byte ",") ∷ spell.typed w p.1)) (FitsTwo w) anything
    (typed_operands_exact w h) (mark_exact (byte ")")) (λ x f. refl)))

strict_some : Exact (made Some (skip (the_mark (byte ",")) (skip (the_type 1) (one (literal_of 1))))) spell.strict_argument (Made Some (FitsLiteral 1)) anything
strict_some = made_exact Some (skip (the_mark (byte ",")) (skip (the_type 1) (one (literal_of 1)))) (λ l. mark (byte ",") ∷ spell.type 1 ∷ spell.literal l) (FitsLiteral 1) anything
    spell.strict_argument anything
    (skip_exact (the_mark (byte ",")) (mark (byte ",")) (skip (the_type 1) (one (literal_of 1))) (λ l. spell.type 1 ∷ spell.literal l) (FitsLiteral 1) anything (mark_exact (byte ","))
    (skip_exact (the_type 1) (spell.type 1) (one (literal_of 1)) spell.literal (FitsLiteral 1) anything (the_type_exact 1 one_wide) (literal_exact 1 one_wide)))
    (λ l f. refl) (λ l f. refl)

none_is : (y : Option Literal) → FitsStrict Fun1.Ctpop y → y ≡ None
none_is None f = refl
none_is (Some l) f = absurd f

strict_none : Exact (nothing None) spell.strict_argument (FitsStrict Fun1.Ctpop) anything
strict_none = fits_exact (nothing None) spell.strict_argument (λ y. y ≡ None) (FitsStrict Fun1.Ctpop) anything
    (spelled_exact (nothing None) (λ _. []) spell.strict_argument (λ y. y ≡ None) anything (nothing_exact None) (λ y e. ap spell.strict_argument (sym e)))
    (λ y e. subst (FitsStrict Fun1.Ctpop) (sym e) tt) none_is

some_made : (y : Option Literal) → FitsStrict Fun1.Abs y → Made Some (FitsLiteral 1) y
some_made None f = absurd f
some_made (Some l) f = record { from = l; fits = f; is = refl }

made_some : (y : Option Literal) → Made Some (FitsLiteral 1) y → FitsStrict Fun1.Abs y
made_some y m = subst (FitsStrict Fun1.Abs) m.is m.fits

strict_exact : (fun : Fun1) → Exact (strict_argument fun) spell.strict_argument (FitsStrict fun) anything
strict_exact Fun1.Ctpop = strict_none
strict_exact Fun1.Abs = fits_exact (strict_argument Fun1.Abs) spell.strict_argument (Made Some (FitsLiteral 1)) (FitsStrict Fun1.Abs) anything strict_some made_some some_made
strict_exact Fun1.Ctlz = fits_exact (strict_argument Fun1.Ctlz) spell.strict_argument (Made Some (FitsLiteral 1)) (FitsStrict Fun1.Ctlz) anything strict_some made_some some_made
strict_exact Fun1.Cttz = fits_exact (strict_argument Fun1.Cttz) spell.strict_argument (Made Some (FitsLiteral 1)) (FitsStrict Fun1.Cttz) anything strict_some made_some some_made

abbrev IntrinsicArgument : ℕ → Fun1 → Written × Option Literal → Type 0
IntrinsicArgument w fun p = FitsValue w p.0 × FitsStrict fun p.1

pub argument_exact : (w : ℕ) (fun : Fun1) → IsWidth w → Exact (argument w fun) (λ p. mark (byte "(") ∷ ((spell.typed w p.0 ++ spell.strict_argument p.1) ++ (mark (byte ")") ∷ []))) (IntrinsicArgument w fun) anything
argument_exact w fun h = skip_exact (the_mark (byte "(")) (mark (byte "(")) (skip (the_type w) (ended (after (one (value_of w)) (λ _. strict_argument fun)) (the_mark (byte ")"))))
    (λ p. (spell.typed w p.0 ++ spell.strict_argument p.1) ++ (mark (byte ")") ∷ [])) (IntrinsicArgument w fun) anything (mark_exact (byte "("))
    (skip_exact (the_type w) (spell.type w) (ended (after (one (value_of w)) (λ _. strict_argument fun)) (the_mark (byte ")")))
    (λ p. (spell.value p.0 ++ spell.strict_argument p.1) ++ (mark (byte ")") ∷ [])) (IntrinsicArgument w fun) anything (the_type_exact w h)
    (ended_exact (after (one (value_of w)) (λ _. strict_argument fun)) (the_mark (byte ")")) (mark (byte ")")) (λ p. spell.value p.0 ++ spell.strict_argument p.1) (IntrinsicArgument w fun) anything
    (after_exact (one (value_of w)) (λ _. strict_argument fun) spell.value (FitsValue w) anything (λ _ s. spell.strict_argument s) (λ _ s. FitsStrict fun s) (λ _ s. anything s)
    (value_exact w h) (λ _ _. strict_exact fun) (λ a b rest f g m. may_anything a (spell.strict_argument b ++ rest)))
    (mark_exact (byte ")")) (λ x f. refl)))

-- a call from its arguments on, and from the type of its result on

abbrev pub after_callee : Operation → List Lexeme
after_callee (Operation.Two words _ w a b) = mark (byte "(") ∷ ((spell.typed w a ++ (mark (byte ",") ∷ spell.typed w b)) ++ (mark (byte ")") ∷ map group words.groups))
after_callee (Operation.One words _ w a strict) = mark (byte "(") ∷ ((spell.typed w a ++ spell.strict_argument strict) ++ (mark (byte ")") ∷ map group words.groups))
after_callee _ = []

abbrev pub after_call : Operation → List Lexeme
after_call (Operation.Two words fun w a b) = spell.type w ∷ global (callee (fun2_word fun) w) ∷ after_callee (Operation.Two words fun w a b)
after_call (Operation.One words fun w a strict) = spell.type w ∷ global (callee (fun1_word fun) w) ∷ after_callee (Operation.One words fun w a strict)
after_call (Operation.Over words over w a b) = spell.pair_type w ++ (global (callee (over_word over) w) ∷ mark (byte "(") ∷ ((spell.typed w a ++ (mark (byte ",") ∷ spell.typed w b)) ++ (mark (byte ")") ∷ map group words.groups)))
after_call (Operation.Assume words c) = word (codes "void") ∷ global (codes "llvm.assume") ∷ mark (byte "(") ∷ (spell.typed 1 c ++ (mark (byte ")") ∷ map group words.groups))
after_call _ = []

closing_apart : (ls gs : List Lexeme) → mark (byte "(") ∷ (ls ++ (mark (byte ")") ∷ gs)) ≡ (mark (byte "(") ∷ (ls ++ (mark (byte ")") ∷ []))) ++ gs
closing_apart ls gs = ap (λ z. mark (byte "(") ∷ z) (sym (append_assoc ls (mark (byte ")") ∷ []) gs))

abbrev TwoFits : ℕ → (Written × Written) × List (List ℕ) → Type 0
TwoFits w p = FitsTwo w p.0 × Unit {0}

pub two_exact : (m : Option (List ℕ)) (w : ℕ) (fun : Fun2) → IsWidth w → Exact (two_call m w fun) after_callee (Made (two_of m w fun) (TwoFits w)) op_follow
unfolding two_call
two_exact m w fun h = made_exact (two_of m w fun) (after (arguments w) (λ _. groups))
    (λ p. (mark (byte "(") ∷ ((spell.typed w p.0.0 ++ (mark (byte ",") ∷ spell.typed w p.0.1)) ++ (mark (byte ")") ∷ []))) ++ map group p.1) (TwoFits w) (λ p. group_follow p.1) after_callee op_follow
    (after_exact (arguments w) (λ _. groups) (λ p. mark (byte "(") ∷ ((spell.typed w p.0 ++ (mark (byte ",") ∷ spell.typed w p.1)) ++ (mark (byte ")") ∷ []))) (FitsTwo w) anything
    (λ _ g. map group g) (λ _ _. Unit {0}) (λ _ g. group_follow g) (arguments_exact w h) (λ _ _. groups_exact)
    (λ a b rest f g k. may_anything a (map group b ++ rest)))
    (λ p f. closing_apart (spell.typed w p.0.0 ++ (mark (byte ",") ∷ spell.typed w p.0.1)) (map group p.1)) (λ p f. refl)

abbrev OneFits : ℕ → Fun1 → (Written × Option Literal) × List (List ℕ) → Type 0
OneFits w fun p = IntrinsicArgument w fun p.0 × Unit {0}

pub one_call_exact : (m : Option (List ℕ)) (w : ℕ) (fun : Fun1) → IsWidth w → Exact (one_call m w fun) after_callee (Made (one_of m w fun) (OneFits w fun)) op_follow
unfolding one_call
one_call_exact m w fun h = made_exact (one_of m w fun) (after (argument w fun) (λ _. groups))
    (λ p. (mark (byte "(") ∷ ((spell.typed w p.0.0 ++ spell.strict_argument p.0.1) ++ (mark (byte ")") ∷ []))) ++ map group p.1) (OneFits w fun) (λ p. group_follow p.1) after_callee op_follow
    (after_exact (argument w fun) (λ _. groups) (λ p. mark (byte "(") ∷ ((spell.typed w p.0 ++ spell.strict_argument p.1) ++ (mark (byte ")") ∷ []))) (IntrinsicArgument w fun) anything
    (λ _ g. map group g) (λ _ _. Unit {0}) (λ _ g. group_follow g) (argument_exact w fun h) (λ _ _. groups_exact)
    (λ a b rest f g k. may_anything a (map group b ++ rest)))
    (λ p f. closing_apart (spell.typed w p.0.0 ++ spell.strict_argument p.0.1) (map group p.1)) (λ p f. refl)

-- the intrinsics by their names

find_passes : {K : Type 0} (test : K → Bool) (all : List K) (k : K) → find test all ≡ Some k → test k ≡ true
find_passes test [] k e = cc
find_passes test (x ∷ xs) k e = ⊎_elim
    (λ p. ap test (sym p.1) ∙ p.0)
    (λ p. find_passes test xs k p.1)
    (first_or (test x) x k (find test xs) e)

intrinsic_is : {K : Type 0} (spelled : K → List ℕ) (all : List K) (w : ℕ) (t : List ℕ) (k : K) → intrinsic_in spelled all w t ≡ Some k → t ≡ callee (spelled k) w
intrinsic_is spelled all w t k e = same_text t (callee (spelled k) w) (find_passes (λ x. bytes_eq t (callee (spelled x) w)) all k e)

module _ {K : Type 0} (spelled : K → List ℕ) (all : List K) (w : ℕ) (each : (k : K) → intrinsic_in spelled all w (callee (spelled k) w) ≡ Some k) (some : K) where
  callee_is : (l : Lexeme) (k : K) → callee_in spelled all w l ≡ Some k → l ≡ global (callee (spelled k) w)
  callee_is (global t) k e = ap global (intrinsic_is spelled all w t k e)
  callee_is _ k e = cc

  callee_exact : Exact (one (callee_in spelled all w)) (λ k. global (callee (spelled k) w) ∷ []) (λ _. Unit {0}) anything
  callee_exact = one_exact (callee_in spelled all w) (λ k. global (callee (spelled k) w)) (λ _. Unit {0}) callee_is (λ l k e. tt) (λ k f. each k) some tt

over_each : (w : ℕ) (over : Over) → intrinsic_in over_word overs w (callee (over_word over) w) ≡ Some over
over_each w Over.Uadd = let e = same_itself (callee (over_word Over.Uadd) w) in rw e refl
over_each w over = let e = same_itself (callee (over_word over) w) in rw e refl

over_callee_exact : (w : ℕ) → Exact (one (callee_in over_word overs w)) (λ x. global (callee (over_word x) w) ∷ []) (λ _. Unit {0}) anything
over_callee_exact w = callee_exact over_word overs w (over_each w) Over.Uadd

intrinsic_each : (w : ℕ) (x : Intrinsic) → intrinsic_in intrinsic_word intrinsics w (callee (intrinsic_word x) w) ≡ Some x
intrinsic_each w (Intrinsic.Two Fun2.Umin) = let e = same_itself (callee (intrinsic_word (Intrinsic.Two Fun2.Umin)) w) in rw e refl
intrinsic_each w (Intrinsic.Two fun) = let e = same_itself (callee (fun2_word fun) w) in rw e refl
intrinsic_each w (Intrinsic.One Fun1.Abs) = let e = same_itself (callee (intrinsic_word (Intrinsic.One Fun1.Abs)) w) in rw e refl
intrinsic_each w (Intrinsic.One fun) = let e = same_itself (callee (fun1_word fun) w) in rw e refl

-- what is called, after words and a type

abbrev pub callee_name : ℕ → Callee → List ℕ
callee_name w (Callee.Known intrinsic) = callee (intrinsic_word intrinsic) w
callee_name w (Callee.Other name) = name

-- an intrinsic stands after no words
abbrev pub CalleeStands : List (List ℕ) → Callee → Type 0
CalleeStands words (Callee.Known _) = words ≡ []
CalleeStands words (Callee.Other name) = IsTrue (not (is_intrinsic name))

record Named (words : List (List ℕ)) (w : ℕ) (name : List ℕ) (c : Callee) : Type 0 where
  form : name ≡ callee_name w c
  stands : CalleeStands words c

known_is : (words : List (List ℕ)) (w : ℕ) (name : List ℕ) (c : Callee) → known_callee words w name ≡ Some c → Named words w name c
known_is [] w name c e =
    let m = mapped Callee.Known (intrinsic_in intrinsic_word intrinsics w name) c e in
    subst (Named [] w name) m.2 (record { form = intrinsic_is intrinsic_word intrinsics w name m.0 m.1; stands = refl })
known_is (_ ∷ _) w name c e = cc

name_is : (words : List (List ℕ)) (w : ℕ) (name : List ℕ) (c : Callee) → callee_after words w (global name) ≡ Some c → Named words w name c
name_is words w name c e = by_test (is_intrinsic name) refl e
  where
    by_test : (b : Bool) → is_intrinsic name ≡ b → cond b (known_callee words w name) (Some (Callee.Other name)) ≡ Some c → Named words w name c
    by_test true t e = known_is words w name c e
    by_test false t e = subst (Named words w name) (some_is (Callee.Other name) c e) (record { form = refl; stands = ap not t })

callee_form : (words : List (List ℕ)) (w : ℕ) (l : Lexeme) (c : Callee) → callee_after words w l ≡ Some c → l ≡ global (callee_name w c)
callee_form words w (global name) c e = ap global (name_is words w name c e).form
callee_form words w _ c e = cc

callee_stands : (words : List (List ℕ)) (w : ℕ) (l : Lexeme) (c : Callee) → callee_after words w l ≡ Some c → CalleeStands words c
callee_stands words w (global name) c e = (name_is words w name c e).stands
callee_stands words w _ c e = cc

callee_again : (words : List (List ℕ)) (w : ℕ) (c : Callee) → CalleeStands words c → callee_after words w (global (callee_name w c)) ≡ Some c
callee_again words w (Callee.Known intrinsic) f = let e = intrinsic_each w intrinsic in rw f (ap (option_map Callee.Known) e)
callee_again words w (Callee.Other name) f = let e = not_parts (is_intrinsic name) f in rw e refl

pub after_words_exact : (words : List (List ℕ)) (w : ℕ) → Exact (one (callee_after words w)) (λ c. global (callee_name w c) ∷ []) (CalleeStands words) anything
after_words_exact words w = one_exact (callee_after words w) (λ c. global (callee_name w c)) (CalleeStands words) (callee_form words w) (callee_stands words w) (callee_again words w)
    (Callee.Other (codes "f")) refl

-- the same after `void`

abbrev pub void_name : VoidCallee → List ℕ
void_name VoidCallee.Assume = codes "llvm.assume"
void_name (VoidCallee.Other name) = name

abbrev pub VoidStands : List (List ℕ) → VoidCallee → Type 0
VoidStands words VoidCallee.Assume = words ≡ []
VoidStands words (VoidCallee.Other name) = IsTrue (not (is_intrinsic name))

record VoidNamed (words : List (List ℕ)) (name : List ℕ) (c : VoidCallee) : Type 0 where
  form : name ≡ void_name c
  stands : VoidStands words c

known_void_is : (words : List (List ℕ)) (name : List ℕ) (c : VoidCallee) → known_void words name ≡ Some c → VoidNamed words name c
known_void_is [] name c e =
    let t = tested (bytes_eq name (codes "llvm.assume")) VoidCallee.Assume c e in
    subst (VoidNamed [] name) t.1 (record { form = same_text name (codes "llvm.assume") t.0; stands = refl })
known_void_is (_ ∷ _) name c e = cc

void_is : (words : List (List ℕ)) (name : List ℕ) (c : VoidCallee) → void_after words (global name) ≡ Some c → VoidNamed words name c
void_is words name c e = by_test (is_intrinsic name) refl e
  where
    by_test : (b : Bool) → is_intrinsic name ≡ b → cond b (known_void words name) (Some (VoidCallee.Other name)) ≡ Some c → VoidNamed words name c
    by_test true t e = known_void_is words name c e
    by_test false t e = subst (VoidNamed words name) (some_is (VoidCallee.Other name) c e) (record { form = refl; stands = ap not t })

void_form : (words : List (List ℕ)) (l : Lexeme) (c : VoidCallee) → void_after words l ≡ Some c → l ≡ global (void_name c)
void_form words (global name) c e = ap global (void_is words name c e).form
void_form words _ c e = cc

void_stands : (words : List (List ℕ)) (l : Lexeme) (c : VoidCallee) → void_after words l ≡ Some c → VoidStands words c
void_stands words (global name) c e = (void_is words name c e).stands
void_stands words _ c e = cc

void_again : (words : List (List ℕ)) (c : VoidCallee) → VoidStands words c → void_after words (global (void_name c)) ≡ Some c
void_again words VoidCallee.Assume f = rw f refl
void_again words (VoidCallee.Other name) f = let e = not_parts (is_intrinsic name) f in rw e refl

after_void_exact : (words : List (List ℕ)) → Exact (one (void_after words)) (λ c. global (void_name c) ∷ []) (VoidStands words) anything
after_void_exact words = one_exact (void_after words) (λ c. global (void_name c)) (VoidStands words) (void_form words) (void_stands words) (void_again words) (VoidCallee.Other (codes "f")) refl

-- a call of a function that is no intrinsic: its arguments

no_attribute : (v : Written) (rest : List Lexeme) (ws : List (List ℕ)) → may (words_follow parameter_words ws) (spell.value v ++ rest) ≡ true
no_attribute (Written.Local name) rest ws = no_word_follows parameter_words ws (local name) refl
no_attribute (Written.Literal (Literal.Boolean true)) rest ws = no_word_follows parameter_words ws (word (codes "true")) refl
no_attribute (Written.Literal (Literal.Boolean false)) rest ws = no_word_follows parameter_words ws (word (codes "false")) refl
no_attribute (Written.Literal (Literal.Number text)) rest ws = no_word_follows parameter_words ws (number text) refl
no_attribute Written.Poison rest ws = no_word_follows parameter_words ws (word (codes "poison")) refl

abbrev ArgumentParts : ℕ × (List (List ℕ) × Written) → Type 0
ArgumentParts p = IsWidth p.0 × (AreWords parameter_words p.1.0 × FitsValue p.0 p.1.1)

pub call_argument_exact : Exact call_argument spell.argument FitsArgument anything
unfolding call_argument
call_argument_exact =
    let rest : ℕ → Reader (List (List ℕ) × Written) = λ width. after (words_among parameter_words) (λ _. one (value_of width)) in
    fits_exact (made argument_of (after (one type_of) rest)) spell.argument (Made argument_of ArgumentParts) FitsArgument anything
    (made_exact argument_of (after (one type_of) rest) (λ p. spell.type p.0 ∷ (map word p.1.0 ++ spell.value p.1.1)) ArgumentParts anything spell.argument anything
    (typed_exact rest (λ _ q. map word q.0 ++ spell.value q.1) (λ w q. AreWords parameter_words q.0 × FitsValue w q.1)
    (λ w h. after_exact (words_among parameter_words) (λ _. one (value_of w)) (map word) (AreWords parameter_words) (words_follow parameter_words) (λ _ v. spell.value v) (λ _ v. FitsValue w v) (λ _ v. anything v)
    (words_exact parameter_words (codes "noundef") refl) (λ _ _. value_exact w h) (λ ws v rest f g m. no_attribute v rest ws)))
    (λ p f. refl) (λ p f. refl))
    (λ a m. subst FitsArgument m.is (record { width = m.fits.0; words = m.fits.1.0; value = m.fits.1.1 }))
    (λ a f. record { from = (a.width, (a.words, a.value)); fits = (f.width, (f.words, f.value)); is = refl })

pub argument_marks : (a : Argument) (c : ℕ) → anything a (mark c) ≡ true
argument_marks a c = refl

pub argument_begins : (a : Argument) (rest : List Lexeme) → next_passes is_any_word (spell.argument a ++ rest) ≡ true
argument_begins a rest = refl

abbrev arguments_joined : List Argument → List Lexeme
arguments_joined = join_by spell.argument (mark (byte ",") ∷ [])

call_arguments_exact : Exact call_arguments (λ xs. mark (byte "(") ∷ (arguments_joined xs ++ (mark (byte ")") ∷ []))) (All FitsArgument) anything
unfolding call_arguments
call_arguments_exact = skip_exact (the_mark (byte "(")) (mark (byte "(")) (ended (comma_list is_any_word call_argument) (the_mark (byte ")"))) (λ xs. arguments_joined xs ++ (mark (byte ")") ∷ [])) (All FitsArgument) anything (mark_exact (byte "("))
    (ended_exact (comma_list is_any_word call_argument) (the_mark (byte ")")) (mark (byte ")")) arguments_joined (All FitsArgument)
    (commas_follow call_argument spell.argument FitsArgument anything call_argument_exact argument_marks is_any_word argument_begins)
    (comma_list_exact call_argument spell.argument FitsArgument anything call_argument_exact argument_marks is_any_word argument_begins) (mark_exact (byte ")"))
    (λ xs f. commas_close call_argument spell.argument FitsArgument anything call_argument_exact argument_marks is_any_word argument_begins 41 refl refl xs))

-- a call from its arguments on, and from its words on

abbrev arguments_spelling : Operation → List Lexeme
arguments_spelling (Operation.Call words _ _ _ arguments) = mark (byte "(") ∷ (arguments_joined arguments ++ (mark (byte ")") ∷ map group words.groups))
arguments_spelling op = after_callee op

abbrev OtherFits : List Argument × List (List ℕ) → Type 0
OtherFits p = All FitsArgument p.0 × Unit {0}

other_exact : (m : Option (List ℕ)) (words : List (List ℕ)) (width : Option ℕ) (name : List ℕ) → Exact (other_call m words width name) arguments_spelling (Made (other_of m words width name) OtherFits) op_follow
unfolding other_call
other_exact m words width name = made_exact (other_of m words width name) (after call_arguments (λ _. groups))
    (λ p. (mark (byte "(") ∷ (arguments_joined p.0 ++ (mark (byte ")") ∷ []))) ++ map group p.1) OtherFits (λ p. group_follow p.1) arguments_spelling op_follow
    (after_exact call_arguments (λ _. groups) (λ xs. mark (byte "(") ∷ (arguments_joined xs ++ (mark (byte ")") ∷ []))) (All FitsArgument) anything
    (λ _ g. map group g) (λ _ _. Unit {0}) (λ _ g. group_follow g) call_arguments_exact (λ _ _. groups_exact)
    (λ a b rest f g k. may_anything a (map group b ++ rest)))
    (λ p f. closing_apart (arguments_joined p.0) (map group p.1)) (λ p f. refl)

-- no type, and no `void`, is a word of a call

type_no_word : (w : ℕ) → IsWidth w → is_word_among call_words (spell.type w) ≡ false
type_no_word w h = let a = no_letter w (codes "reg") h in rw a refl

type_after_words : (ws : List (List ℕ)) (w : ℕ) → IsWidth w → words_follow call_words ws (spell.type w) ≡ true
type_after_words ws w h = no_word_follows call_words ws (spell.type w) (type_no_word w h)

-- a call with its callee

abbrev pub CalleeFits : Option (List ℕ) → List (List ℕ) → ℕ → Callee → Operation → Type 0
CalleeFits m words w (Callee.Known (Intrinsic.Two fun)) = Made (two_of m w fun) (TwoFits w)
CalleeFits m words w (Callee.Known (Intrinsic.One fun)) = Made (one_of m w fun) (OneFits w fun)
CalleeFits m words w (Callee.Other name) = Made (other_of m words (Some w) name) OtherFits

two_arguments : (m : Option (List ℕ)) (w : ℕ) (fun : Fun2) (op : Operation) → Made (two_of m w fun) (TwoFits w) op → after_callee op ≡ arguments_spelling op
two_arguments m w fun op f = subst (λ z. after_callee z ≡ arguments_spelling z) f.is refl

one_arguments : (m : Option (List ℕ)) (w : ℕ) (fun : Fun1) (op : Operation) → Made (one_of m w fun) (OneFits w fun) op → after_callee op ≡ arguments_spelling op
one_arguments m w fun op f = subst (λ z. after_callee z ≡ arguments_spelling z) f.is refl

callee_call_exact : (m : Option (List ℕ)) (words : List (List ℕ)) (w : ℕ) (c : Callee) → IsWidth w → Exact (callee_call m words w c) arguments_spelling (CalleeFits m words w c) op_follow
callee_call_exact m words w (Callee.Known (Intrinsic.Two fun)) h = spelled_exact (two_call m w fun) after_callee arguments_spelling (Made (two_of m w fun) (TwoFits w)) op_follow (two_exact m w fun h) (two_arguments m w fun)
callee_call_exact m words w (Callee.Known (Intrinsic.One fun)) h = spelled_exact (one_call m w fun) after_callee arguments_spelling (Made (one_of m w fun) (OneFits w fun)) op_follow (one_call_exact m w fun h) (one_arguments m w fun)
callee_call_exact m words w (Callee.Other name) h = other_exact m words (Some w) name

abbrev pub NamedFits : Option (List ℕ) → List (List ℕ) → ℕ × (Callee × Operation) → Type 0
NamedFits m words p = IsWidth p.0 × (CalleeStands words p.1.0 × CalleeFits m words p.0 p.1.0 p.1.1)

abbrev pub PlainFits : Option (List ℕ) → List (List ℕ) × Operation → Type 0
PlainFits m p = AreWords call_words p.0 × Made named_of (NamedFits m p.0) p.1

-- from the type of the result on
abbrev named_spelling : Operation → List Lexeme
named_spelling (Operation.Two words fun w a b) = spell.type w ∷ global (callee (fun2_word fun) w) ∷ arguments_spelling (Operation.Two words fun w a b)
named_spelling (Operation.One words fun w a strict) = spell.type w ∷ global (callee (fun1_word fun) w) ∷ arguments_spelling (Operation.One words fun w a strict)
named_spelling (Operation.Call words attributes width name arguments) = spell.result_type width ∷ global name ∷ arguments_spelling (Operation.Call words attributes width name arguments)
named_spelling _ = []

abbrev NamedSpelled : ℕ → Callee → Operation → Type 0
NamedSpelled w c op = named_spelling op ≡ spell.type w ∷ global (callee_name w c) ∷ arguments_spelling op

named_spelled : (m : Option (List ℕ)) (words : List (List ℕ)) (w : ℕ) (c : Callee) (op : Operation) → CalleeFits m words w c op → NamedSpelled w c op
named_spelled m words w (Callee.Known (Intrinsic.Two fun)) op f = subst (NamedSpelled w (Callee.Known (Intrinsic.Two fun))) f.is refl
named_spelled m words w (Callee.Known (Intrinsic.One fun)) op f = subst (NamedSpelled w (Callee.Known (Intrinsic.One fun))) f.is refl
named_spelled m words w (Callee.Other name) op f = subst (NamedSpelled w (Callee.Other name)) f.is refl

abbrev named_rest : Option (List ℕ) → List (List ℕ) → ℕ → Reader (Callee × Operation)
named_rest m words w = after (one (callee_after words w)) (callee_call m words w)

named_exact : (m : Option (List ℕ)) (words : List (List ℕ)) → Exact (named_call m words) named_spelling (Made named_of (NamedFits m words)) op_follow
named_exact m words = made_exact named_of (after (one type_of) (named_rest m words))
    (λ p. spell.type p.0 ∷ global (callee_name p.0 p.1.0) ∷ arguments_spelling p.1.1) (NamedFits m words) (λ p. op_follow p.1.1) named_spelling op_follow
    (after_exact (one type_of) (named_rest m words) (λ w. spell.type w ∷ []) IsWidth anything
    (λ w q. global (callee_name w q.0) ∷ arguments_spelling q.1) (λ w q. CalleeStands words q.0 × CalleeFits m words w q.0 q.1) (λ _ q. op_follow q.1) type_exact
    (λ w h. after_exact (one (callee_after words w)) (callee_call m words w) (λ c. global (callee_name w c) ∷ []) (CalleeStands words) anything
    (λ _ op. arguments_spelling op) (λ c op. CalleeFits m words w c op) (λ _ op. op_follow op) (after_words_exact words w) (λ c _. callee_call_exact m words w c h)
    (λ a b rest f g k. may_anything a (arguments_spelling b ++ rest)))
    (λ a b rest f g k. refl))
    (λ p f. named_spelled m words p.0 p.1.0 p.1.1 f.1.1) (λ p f. refl)

abbrev pub words_spelling : Operation → List Lexeme
words_spelling (Operation.Call words attributes width name arguments) = map word attributes ++ named_spelling (Operation.Call words attributes width name arguments)
words_spelling op = after_call op

abbrev WordsSpelled : List (List ℕ) → Operation → Type 0
WordsSpelled words op = words_spelling op ≡ map word words ++ named_spelling op

words_spelled : (m : Option (List ℕ)) (words : List (List ℕ)) (w : ℕ) (c : Callee) (op : Operation) → CalleeStands words c → CalleeFits m words w c op → WordsSpelled words op
words_spelled m words w (Callee.Known (Intrinsic.Two fun)) op s f = subst (λ z. WordsSpelled z op) (sym s) (subst (WordsSpelled []) f.is refl)
words_spelled m words w (Callee.Known (Intrinsic.One fun)) op s f = subst (λ z. WordsSpelled z op) (sym s) (subst (WordsSpelled []) f.is refl)
words_spelled m words w (Callee.Other name) op s f = subst (WordsSpelled words) f.is refl

plain_spelled : (m : Option (List ℕ)) (p : List (List ℕ) × Operation) → PlainFits m p → words_spelling p.1 ≡ map word p.0 ++ named_spelling p.1
plain_spelled m p f = let n = f.1 in subst (WordsSpelled p.0) n.is (words_spelled m p.0 n.from.0 n.from.1.0 n.from.1.1 n.fits.1.0 n.fits.1.1)

named_joins : (m : Option (List ℕ)) (ws : List (List ℕ)) (op : Operation) (rest : List Lexeme) → Made named_of (NamedFits m ws) op → may (words_follow call_words ws) (named_spelling op ++ rest) ≡ true
named_joins m ws op rest n =
    ap (λ z. may (words_follow call_words ws) (named_spelling z ++ rest)) (sym n.is)
    ∙ ap (λ z. may (words_follow call_words ws) (z ++ rest)) (named_spelled m ws n.from.0 n.from.1.0 n.from.1.1 n.fits.1.1)
    ∙ type_after_words ws n.from.0 n.fits.0

pub plain_exact : (m : Option (List ℕ)) → Exact (plain_call m) words_spelling (Made last_of (PlainFits m)) op_follow
unfolding plain_call
plain_exact m = made_exact last_of (after (words_among call_words) (named_call m)) (λ p. map word p.0 ++ named_spelling p.1) (PlainFits m) (λ p. op_follow p.1) words_spelling op_follow
    (after_exact (words_among call_words) (named_call m) (map word) (AreWords call_words) (words_follow call_words) (λ _ op. named_spelling op) (λ ws op. Made named_of (NamedFits m ws) op) (λ _ op. op_follow op)
    (words_exact call_words (codes "ccc") refl) (λ ws _. named_exact m ws) (λ ws op rest f g k. named_joins m ws op rest g))
    (λ p f. plain_spelled m p f) (λ p f. refl)

abbrev pub OverFits : ℕ × (Over × ((Written × Written) × List (List ℕ))) → Type 0
OverFits (width, (_, (two, _))) = IsWidth width × (Unit {0} × (FitsTwo width two × Unit {0}))

abbrev over_arguments : ℕ → (Written × Written) × List (List ℕ) → List Lexeme
over_arguments w ((a, b), digits) = (mark (byte "(") ∷ ((spell.typed w a ++ (mark (byte ",") ∷ spell.typed w b)) ++ (mark (byte ")") ∷ []))) ++ map group digits

pub over_exact : (m : Option (List ℕ)) → Exact (over_call m) after_call (Made (over_of m) OverFits) op_follow
unfolding over_call
over_exact m = made_exact (over_of m) (after pair_type (λ width. after (one (callee_in over_word overs width)) (λ _. after (arguments width) (λ _. groups))))
    (λ p. spell.pair_type p.0 ++ (global (callee (over_word p.1.0) p.0) ∷ over_arguments p.0 p.1.1)) OverFits (λ p. group_follow p.1.1.1) after_call op_follow
    (after_exact pair_type (λ width. after (one (callee_in over_word overs width)) (λ _. after (arguments width) (λ _. groups))) spell.pair_type IsWidth anything
    (λ w q. global (callee (over_word q.0) w) ∷ over_arguments w q.1) (λ w q. Unit {0} × (FitsTwo w q.1.0 × Unit {0})) (λ _ q. group_follow q.1.1) pair_type_exact
    (λ w h. after_exact (one (callee_in over_word overs w)) (λ _. after (arguments w) (λ _. groups)) (λ x. global (callee (over_word x) w) ∷ []) (λ _. Unit {0}) anything
    (λ _ q. over_arguments w q) (λ _ q. FitsTwo w q.0 × Unit {0}) (λ _ q. group_follow q.1) (over_callee_exact w)
    (λ _ _. after_exact (arguments w) (λ _. groups) (λ p. mark (byte "(") ∷ ((spell.typed w p.0 ++ (mark (byte ",") ∷ spell.typed w p.1)) ++ (mark (byte ")") ∷ []))) (FitsTwo w) anything
    (λ _ g. map group g) (λ _ _. Unit {0}) (λ _ g. group_follow g) (arguments_exact w h) (λ _ _. groups_exact)
    (λ a b rest f g k. may_anything a (map group b ++ rest)))
    (λ a b rest f g k. refl))
    (λ a b rest f g k. refl))
    (λ p f. ap (λ z. spell.pair_type p.0 ++ (global (callee (over_word p.1.0) p.0) ∷ z)) (closing_apart (spell.typed p.0 p.1.1.0.0 ++ (mark (byte ",") ∷ spell.typed p.0 p.1.1.0.1)) (map group p.1.1.1)))
    (λ p f. refl)

no_brace : (ws : List (List ℕ)) (ls rest : List Lexeme) → next_passes (is_mark (byte "{")) (ls ++ rest) ≡ false → next_passes (is_mark (byte "{")) ((map word ws ++ ls) ++ rest) ≡ false
no_brace [] ls rest e = e
no_brace (w ∷ ws) ls rest e = refl

named_no_brace : (m : Option (List ℕ)) (ws : List (List ℕ)) (op : Operation) (rest : List Lexeme) → Made named_of (NamedFits m ws) op → next_passes (is_mark (byte "{")) (named_spelling op ++ rest) ≡ false
named_no_brace m ws op rest n =
    ap (λ z. next_passes (is_mark (byte "{")) (named_spelling z ++ rest)) (sym n.is)
    ∙ ap (λ z. next_passes (is_mark (byte "{")) (z ++ rest)) (named_spelled m ws n.from.0 n.from.1.0 n.from.1.1 n.fits.1.1)

pub call_exact : (m : Option (List ℕ)) → Exact (call m) words_spelling (λ op. Made (over_of m) OverFits op ⊎ Made last_of (PlainFits m) op) op_follow
unfolding call
call_exact m = choose_exact (is_mark (byte "{")) (over_call m) (plain_call m) words_spelling (Made (over_of m) OverFits) (Made last_of (PlainFits m)) op_follow
    (spelled_exact (over_call m) after_call words_spelling (Made (over_of m) OverFits) op_follow (over_exact m) (λ op f. subst (λ z. after_call z ≡ words_spelling z) f.is refl))
    (plain_exact m)
    (λ op rest f k. ap (λ z. next_passes (is_mark (byte "{")) (words_spelling z ++ rest)) (sym f.is))
    (λ op rest f k. ap (λ z. next_passes (is_mark (byte "{")) (words_spelling z ++ rest)) (sym f.is)
    ∙ ap (λ z. next_passes (is_mark (byte "{")) (z ++ rest)) (plain_spelled m f.from f.fits)
    ∙ no_brace f.from.0 (named_spelling f.from.1) rest (named_no_brace m f.from.0 f.from.1 rest f.fits.1))

-- a call without a result

abbrev pub AssumeFits : Written × List (List ℕ) → Type 0
AssumeFits p = FitsValue 1 p.0 × Unit {0}

abbrev assumed : Reader Written
assumed = skip (the_mark (byte "(")) (skip (the_type 1) (ended (one (value_of 1)) (the_mark (byte ")"))))

abbrev assumed_spelling : Written → List Lexeme
assumed_spelling c = mark (byte "(") ∷ (spell.typed 1 c ++ (mark (byte ")") ∷ []))

assumed_exact : Exact assumed assumed_spelling (FitsValue 1) anything
assumed_exact = skip_exact (the_mark (byte "(")) (mark (byte "(")) (skip (the_type 1) (ended (one (value_of 1)) (the_mark (byte ")")))) (λ c. spell.typed 1 c ++ (mark (byte ")") ∷ [])) (FitsValue 1) anything (mark_exact (byte "("))
    (skip_exact (the_type 1) (spell.type 1) (ended (one (value_of 1)) (the_mark (byte ")"))) (λ c. spell.value c ++ (mark (byte ")") ∷ [])) (FitsValue 1) anything (the_type_exact 1 one_wide)
    (ended_exact (one (value_of 1)) (the_mark (byte ")")) (mark (byte ")")) spell.value (FitsValue 1) anything (value_exact 1 one_wide) (mark_exact (byte ")")) (λ x f. refl)))

abbrev void_arguments : Operation → List Lexeme
void_arguments (Operation.Assume words c) = mark (byte "(") ∷ (spell.typed 1 c ++ (mark (byte ")") ∷ map group words.groups))
void_arguments op = arguments_spelling op

assume_exact : (m : Option (List ℕ)) → Exact (assume_call m) void_arguments (Made (assume_of m) AssumeFits) op_follow
unfolding assume_call
assume_exact m = made_exact (assume_of m) (after assumed (λ _. groups)) (λ p. assumed_spelling p.0 ++ map group p.1) AssumeFits (λ p. group_follow p.1) void_arguments op_follow
    (after_exact assumed (λ _. groups) assumed_spelling (FitsValue 1) anything (λ _ g. map group g) (λ _ _. Unit {0}) (λ _ g. group_follow g) assumed_exact (λ _ _. groups_exact)
    (λ a b rest f g k. may_anything a (map group b ++ rest)))
    (λ p f. closing_apart (spell.typed 1 p.0) (map group p.1)) (λ p f. refl)

abbrev pub VoidCalleeFits : Option (List ℕ) → List (List ℕ) → VoidCallee → Operation → Type 0
VoidCalleeFits m words VoidCallee.Assume = Made (assume_of m) AssumeFits
VoidCalleeFits m words (VoidCallee.Other name) = Made (other_of m words None name) OtherFits

void_callee_exact : (m : Option (List ℕ)) (words : List (List ℕ)) (c : VoidCallee) → Exact (void_callee_call m words c) void_arguments (VoidCalleeFits m words c) op_follow
void_callee_exact m words VoidCallee.Assume = assume_exact m
void_callee_exact m words (VoidCallee.Other name) = spelled_exact (other_call m words None name) arguments_spelling void_arguments (Made (other_of m words None name) OtherFits) op_follow
    (other_exact m words None name) (λ op f. subst (λ z. arguments_spelling z ≡ void_arguments z) f.is refl)

abbrev pub VoidFits : Option (List ℕ) → List (List ℕ) × (VoidCallee × Operation) → Type 0
VoidFits m p = AreWords call_words p.0 × (VoidStands p.0 p.1.0 × VoidCalleeFits m p.0 p.1.0 p.1.1)

abbrev void_spelling : List (List ℕ) × (VoidCallee × Operation) → List Lexeme
void_spelling p = map word p.0 ++ (word (codes "void") ∷ global (void_name p.1.0) ∷ void_arguments p.1.1)

pub void_spelled : (m : Option (List ℕ)) (words : List (List ℕ)) (c : VoidCallee) (op : Operation) → VoidStands words c → VoidCalleeFits m words c op → words_spelling op ≡ void_spelling (words, (c, op))
void_spelled m words VoidCallee.Assume op s f =
    subst (λ z. words_spelling op ≡ void_spelling (z, (VoidCallee.Assume, op))) (sym s) (subst (λ z. words_spelling z ≡ void_spelling ([], (VoidCallee.Assume, z))) f.is refl)
void_spelled m words (VoidCallee.Other name) op s f = subst (λ z. words_spelling z ≡ void_spelling (words, (VoidCallee.Other name, z))) f.is refl

pub void_exact : (m : Option (List ℕ)) → Exact (void_call m) words_spelling (Made void_of (VoidFits m)) op_follow
unfolding void_call
void_exact m = made_exact void_of (after (words_among call_words) (void_named m)) void_spelling (VoidFits m) (λ p. op_follow p.1.1) words_spelling op_follow
    (after_exact (words_among call_words) (void_named m) (map word) (AreWords call_words) (words_follow call_words)
    (λ _ q. word (codes "void") ∷ global (void_name q.0) ∷ void_arguments q.1) (λ ws q. VoidStands ws q.0 × VoidCalleeFits m ws q.0 q.1) (λ _ q. op_follow q.1)
    (words_exact call_words (codes "ccc") refl)
    (λ ws _. skip_exact (the_word (codes "void")) (word (codes "void")) (after (one (void_after ws)) (void_callee_call m ws)) (λ q. global (void_name q.0) ∷ void_arguments q.1) (λ q. VoidStands ws q.0 × VoidCalleeFits m ws q.0 q.1) (λ q. op_follow q.1)
    (word_exact (codes "void"))
    (after_exact (one (void_after ws)) (void_callee_call m ws) (λ c. global (void_name c) ∷ []) (VoidStands ws) anything (λ _ op. void_arguments op) (λ c op. VoidCalleeFits m ws c op) (λ _ op. op_follow op)
    (after_void_exact ws) (λ c _. void_callee_exact m ws c) (λ a b rest f g k. may_anything a (void_arguments b ++ rest))))
    (λ ws q rest f g k. no_word_follows call_words ws (word (codes "void")) refl))
    (λ p f. void_spelled m p.0 p.1.0 p.1.1 f.1.0 f.1.1) (λ p f. refl)
