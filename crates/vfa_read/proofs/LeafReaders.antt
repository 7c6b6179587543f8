-- Reading one token is exact.
use Rattle.std.proofs.Common.{◌≡◌, ℕ, Bool, true, false, not, ◌&&◌, ◌==◌, cond, List, [], ◌∷◌, ◌⊎◌, inl, inr, ⊎_elim, Option, Some, None, option_map, pow_pos, ◌^◌, IsTrue, bytes_eq, codes, refl, sym, ap, ◌∙◌, subst, arith, eqb-true, lt-ltb}
use Rattle.std.proofs.lemmas.Bool.Decides.{nat_tests}
use Rattle.vfa_ir.specs.declared.syntax.Literal.{Literal}
use Rattle.vfa_ir.specs.declared.syntax.Written.{Written}
use Rattle.vfa_ir.specs.declared.operations.Pred.{Pred}
use Rattle.vfa_ir.specs.Lexemes.{Lexeme, local, global, label, metadata, group, number, word, mark}
use Rattle.vfa_ir.specs.Grammar.{IsWidth, FitsValue, FitsLiteral}
use Rattle.vfa_ir.specs.Spelling.{type, literal, value}
use Rattle.vfa_ir.specs.Words.{is_digits, is_number, keyword, pred_word, preds}
use Rattle.vfa_ir.proofs.Keywords.{keyword_spelled, pred_keyword}
use Rattle.vfa_read.specs.Readers.{one}
use Rattle.vfa_read.specs.Tables.{the_mark, the_word, local_name, global_name, label_name, group_digits, metadata_kind, metadata_node, keyword_in, type_of, literal_word, literal_of, value_of, fits_number}
use Rattle.vfa_read.proofs.Exact.{Exact, one_exact, spelled_exact, anything}
use Rattle.vfa_read.proofs.Words.{same_text, same_itself, and_parts, not_parts, tested, width_is, is_width}
use Rattle.vfa_read.proofs.NumberRanges.{fits_is, is_fits}

-- a name of each kind

pub some_is : {A : Type 0} (x y : A) → Some x ≡ Some y → x ≡ y
some_is x y e = cc

local_is : (l : Lexeme) (x : List ℕ) → local_name l ≡ Some x → l ≡ local x
local_is (local y) x e = ap local (some_is y x e)
local_is _ x e = cc

pub local_exact : Exact (one local_name) (λ x. local x ∷ []) (λ _. Unit {0}) anything
local_exact = one_exact local_name local (λ _. Unit {0}) local_is (λ l x e. tt) (λ x f. refl) [] tt

global_is : (l : Lexeme) (x : List ℕ) → global_name l ≡ Some x → l ≡ global x
global_is (global y) x e = ap global (some_is y x e)
global_is _ x e = cc

pub global_exact : Exact (one global_name) (λ x. global x ∷ []) (λ _. Unit {0}) anything
global_exact = one_exact global_name global (λ _. Unit {0}) global_is (λ l x e. tt) (λ x f. refl) [] tt

label_is : (l : Lexeme) (x : List ℕ) → label_name l ≡ Some x → l ≡ label x
label_is (label y) x e = ap label (some_is y x e)
label_is _ x e = cc

pub label_exact : Exact (one label_name) (λ x. label x ∷ []) (λ _. Unit {0}) anything
label_exact = one_exact label_name label (λ _. Unit {0}) label_is (λ l x e. tt) (λ x f. refl) [] tt

group_is : (l : Lexeme) (x : List ℕ) → group_digits l ≡ Some x → l ≡ group x
group_is (group y) x e = ap group (some_is y x e)
group_is _ x e = cc

pub group_exact : Exact (one group_digits) (λ x. group x ∷ []) (λ _. Unit {0}) anything
group_exact = one_exact group_digits group (λ _. Unit {0}) group_is (λ l x e. tt) (λ x f. refl) [] tt

-- metadata

untested : {A : Type 0} (b : Bool) (x y : A) → cond b None (Some x) ≡ Some y → (b ≡ false) × (x ≡ y)
untested true x y e = cc
untested false x y e = (refl, cc)

kind_is : (l : Lexeme) (x : List ℕ) → metadata_kind l ≡ Some x → l ≡ metadata x
kind_is (metadata y) x e = ap metadata (untested (is_number y) y x e).1
kind_is _ x e = cc

not_false : (b : Bool) → b ≡ false → not b ≡ true
not_false b e = rw e refl

kind_fits : (l : Lexeme) (x : List ℕ) → metadata_kind l ≡ Some x → IsTrue (not (is_number x))
kind_fits (metadata y) x e = let t = untested (is_number y) y x e in not_false (is_number x) (ap is_number (sym t.1) ∙ t.0)
kind_fits _ x e = cc

pub kind_exact : Exact (one metadata_kind) (λ x. metadata x ∷ []) (λ x. IsTrue (not (is_number x))) anything
kind_exact = one_exact metadata_kind metadata (λ x. IsTrue (not (is_number x))) kind_is kind_fits
    (λ x f. let t = not_parts (is_number x) f in rw t refl) (codes "prof") refl

node_is : (l : Lexeme) (x : List ℕ) → metadata_node l ≡ Some x → l ≡ metadata x
node_is (metadata y) x e = ap metadata (tested (is_digits y) y x e).1
node_is _ x e = cc

node_fits : (l : Lexeme) (x : List ℕ) → metadata_node l ≡ Some x → IsTrue (is_digits x)
node_fits (metadata y) x e = let t = tested (is_digits y) y x e in ap is_digits (sym t.1) ∙ t.0
node_fits _ x e = cc

pub node_exact : Exact (one metadata_node) (λ x. metadata x ∷ []) (λ x. IsTrue (is_digits x)) anything
node_exact = one_exact metadata_node metadata (λ x. IsTrue (is_digits x)) node_is node_fits (λ x f. rw f refl) (codes "0") refl

-- a mark, and a word that is known

mark_is : (c : ℕ) (l : Lexeme) (x : Unit {0}) → the_mark c l ≡ Some x → l ≡ mark c
mark_is c (mark d) x e = ap mark (eqb-true d c (tested (d == c) tt x e).0)
mark_is c _ x e = cc

pub same_number : (c : ℕ) → (c == c) ≡ true
same_number c = grind (arith, nat_tests)

mark_again : (c : ℕ) (x : Unit {0}) → the_mark c (mark c) ≡ Some x
mark_again c x = let e = same_number c in rw e refl

pub mark_exact : (c : ℕ) → Exact (one (the_mark c)) (λ _. mark c ∷ []) (λ _. Unit {0}) anything
mark_exact c = one_exact (the_mark c) (λ _. mark c) (λ _. Unit {0}) (mark_is c) (λ l x e. tt) (λ x f. mark_again c x) tt tt

word_is : (text : List ℕ) (l : Lexeme) (x : Unit {0}) → the_word text l ≡ Some x → l ≡ word text
word_is text (word w) x e = ap word (same_text w text (tested (bytes_eq w text) tt x e).0)
word_is text _ x e = cc

word_again : (text : List ℕ) (x : Unit {0}) → the_word text (word text) ≡ Some x
word_again text x = let e = same_itself text in rw e refl

pub word_exact : (text : List ℕ) → Exact (one (the_word text)) (λ _. word text ∷ []) (λ _. Unit {0}) anything
word_exact text = one_exact (the_word text) (λ _. word text) (λ _. Unit {0}) (word_is text) (λ l x e. tt) (λ x f. word_again text x) tt tt

-- a type

pub type_is : (l : Lexeme) (w : ℕ) → type_of l ≡ Some w → l ≡ type w
type_is (word t) w e = ap word (width_is t w e).1
type_is _ w e = cc

type_fits : (l : Lexeme) (w : ℕ) → type_of l ≡ Some w → IsWidth w
type_fits (word t) w e = (width_is t w e).0
type_fits _ w e = cc

pub type_exact : Exact (one type_of) (λ w. type w ∷ []) IsWidth anything
type_exact = one_exact type_of type IsWidth type_is type_fits is_width 1 (record { least = omega arith; most = omega arith })

-- a literal, and a value

abbrev pub literal_form : Literal → Lexeme
literal_form (Literal.Boolean true) = word (codes "true")
literal_form (Literal.Boolean false) = word (codes "false")
literal_form (Literal.Number text) = number text

pub first_or : {A : Type 0} (b : Bool) (x y : A) (o : Option A) → cond b (Some x) o ≡ Some y → ((b ≡ true) × (x ≡ y)) ⊎ ((b ≡ false) × (o ≡ Some y))
first_or true x y o e = inl (refl, some_is x y e)
first_or false x y o e = inr (refl, e)

-- a word that is a literal, and at which width
record LiteralWord (w : ℕ) (t : List ℕ) (x : Literal) : Type 0 where
  form : word t ≡ literal_form x
  fits : FitsLiteral w x

literal_word_is : (w : ℕ) (t : List ℕ) (x : Literal) → literal_word w t ≡ Some x → LiteralWord w t x
literal_word_is w t x e = ⊎_elim
    (λ p. let q = and_parts (w == 1) (bytes_eq t (codes "true")) p.0 in
    subst (LiteralWord w t) p.1 (record { form = ap word (same_text t (codes "true") q.1); fits = eqb-true w 1 q.0 }))
    (λ p. let r = tested (w == 1 && bytes_eq t (codes "false")) (Literal.Boolean false) x p.1 in
    let q = and_parts (w == 1) (bytes_eq t (codes "false")) r.0 in
    subst (LiteralWord w t) r.1 (record { form = ap word (same_text t (codes "false") q.1); fits = eqb-true w 1 q.0 }))
    (first_or (w == 1 && bytes_eq t (codes "true")) (Literal.Boolean true) x _ e)

literal_is : (w : ℕ) (l : Lexeme) (x : Literal) → literal_of w l ≡ Some x → l ≡ literal_form x
literal_is w (word t) x e = (literal_word_is w t x e).form
literal_is w (number t) x e = ap literal_form (tested (fits_number w t) (Literal.Number t) x e).1
literal_is w _ x e = cc

literal_fits : (w : ℕ) (l : Lexeme) (x : Literal) → literal_of w l ≡ Some x → FitsLiteral w x
literal_fits w (word t) x e = (literal_word_is w t x e).fits
literal_fits w (number t) x e = let p = tested (fits_number w t) (Literal.Number t) x e in subst (FitsLiteral w) p.1 (fits_is w t p.0)
literal_fits w _ x e = cc

literal_again : (w : ℕ) (x : Literal) → FitsLiteral w x → literal_of w (literal_form x) ≡ Some x
literal_again w (Literal.Boolean true) f = rw f refl
literal_again w (Literal.Boolean false) f = rw f refl
literal_again w (Literal.Number text) f = let e = is_fits w text f in rw e refl

literal_spelling : (x : Literal) → literal_form x ∷ [] ≡ literal x
literal_spelling (Literal.Boolean true) = refl
literal_spelling (Literal.Boolean false) = refl
literal_spelling (Literal.Number text) = refl

zero_fits : (w : ℕ) → IsWidth w → FitsLiteral w (Literal.Number (codes "0"))
zero_fits w h = fits_is w (codes "0") (let p = pow_pos w in let e = lt-ltb 0 (2 ^ w) p in rw e refl)

pub literal_exact : (w : ℕ) → IsWidth w → Exact (one (literal_of w)) literal (FitsLiteral w) anything
literal_exact w h = spelled_exact (one (literal_of w)) (λ x. literal_form x ∷ []) literal (FitsLiteral w) anything
    (one_exact (literal_of w) literal_form (FitsLiteral w) (literal_is w) (literal_fits w) (literal_again w) (Literal.Number (codes "0")) (zero_fits w h))
    (λ x f. literal_spelling x)

abbrev value_form : Written → Lexeme
value_form (Written.Local name) = local name
value_form (Written.Literal l) = literal_form l
value_form Written.Poison = word (codes "poison")

pub mapped : {A B : Type 0} (f : A → B) (o : Option A) (y : B) → option_map f o ≡ Some y → (x : A) × (o ≡ Some x) × (f x ≡ y)
mapped f None y e = cc
mapped f (Some x) y e = (x, refl, some_is (f x) y e)

record Value (w : ℕ) (l : Lexeme) (x : Written) : Type 0 where
  form : l ≡ value_form x
  fits : FitsValue w x

value_literal : (w : ℕ) (l : Lexeme) (x : Written) → option_map Written.Literal (literal_of w l) ≡ Some x → Value w l x
value_literal w l x e =
    let m = mapped Written.Literal (literal_of w l) x e in
    subst (Value w l) m.2 (record { form = literal_is w l m.0 m.1; fits = literal_fits w l m.0 m.1 })

value_word : (w : ℕ) (t : List ℕ) (x : Written) → value_of w (word t) ≡ Some x → Value w (word t) x
value_word w t x e = ⊎_elim
    (λ p. subst (Value w (word t)) p.1 (record { form = ap word (same_text t (codes "poison") p.0); fits = tt }))
    (λ p. value_literal w (word t) x p.1)
    (first_or (bytes_eq t (codes "poison")) Written.Poison x (option_map Written.Literal (literal_word w t)) e)

value_is : (w : ℕ) (l : Lexeme) (x : Written) → value_of w l ≡ Some x → Value w l x
value_is w (local name) x e = subst (Value w (local name)) (some_is (Written.Local name) x e) (record { form = refl; fits = tt })
value_is w (word t) x e = value_word w t x e
value_is w (number t) x e = value_literal w (number t) x e
value_is w _ x e = cc

value_again : (w : ℕ) (x : Written) → FitsValue w x → value_of w (value_form x) ≡ Some x
value_again w (Written.Local name) f = refl
value_again w (Written.Literal (Literal.Boolean true)) f = rw f refl
value_again w (Written.Literal (Literal.Boolean false)) f = rw f refl
value_again w (Written.Literal (Literal.Number text)) f = ap (option_map Written.Literal) (literal_again w (Literal.Number text) f)
value_again w Written.Poison f = refl

value_spelling : (x : Written) → value_form x ∷ [] ≡ value x
value_spelling (Written.Local name) = refl
value_spelling (Written.Literal l) = literal_spelling l
value_spelling Written.Poison = refl

pub value_exact : (w : ℕ) → IsWidth w → Exact (one (value_of w)) value (FitsValue w) anything
value_exact w h = spelled_exact (one (value_of w)) (λ x. value_form x ∷ []) value (FitsValue w) anything
    (one_exact (value_of w) value_form (FitsValue w) (λ l x e. (value_is w l x e).form) (λ l x e. (value_is w l x e).fits) (value_again w) Written.Poison tt)
    (λ x f. value_spelling x)

-- a word of a table

module _ {K : Type 0} (spelled : K → List ℕ) (all : List K) (each : (k : K) → keyword spelled all (spelled k) ≡ Some k) (some : K) where
  keyword_is : (l : Lexeme) (k : K) → keyword_in spelled all l ≡ Some k → l ≡ word (spelled k)
  keyword_is (word t) k e = ap word (sym (same_text (spelled k) t (keyword_spelled spelled all t k e)))
  keyword_is _ k e = cc

  pub keyword_exact : Exact (one (keyword_in spelled all)) (λ k. word (spelled k) ∷ []) (λ _. Unit {0}) anything
  keyword_exact = one_exact (keyword_in spelled all) (λ k. word (spelled k)) (λ _. Unit {0}) keyword_is (λ l k e. tt) (λ k f. each k) some tt

pub pred_exact : Exact (one (keyword_in pred_word preds)) (λ p. word (pred_word p) ∷ []) (λ _. Unit {0}) anything
pred_exact = keyword_exact pred_word preds pred_keyword Pred.Eq
