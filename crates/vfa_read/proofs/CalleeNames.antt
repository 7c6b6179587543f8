-- The name of an intrinsic at a width, part by part.
use Rattle.std.proofs.Common.{◌≡◌, ℕ, Bool, true, false, nat_eq, List, ◌++◌, length, take, drop, Some, None, bytes_eq, codes, refl, sym, ap, ◌∙◌, append_assoc, eqb-true, true≢false}
use Rattle.std.proofs.Math.Seq.{take-append_seam}
use Rattle.std.proofs.lemmas.Bool.Decides.{nat_tests}
use Rattle.std.proofs.lemmas.List.{append_cancel_left, take-append-drop}
use Rattle.vfa_ir.specs.Grammar.{IsWidth}
use Rattle.vfa_ir.specs.Words.{callee, type_word}
use Rattle.vfa_read.specs.Tables.{type_width}
use Rattle.vfa_read.proofs.LeafReaders.{some_is}
use Rattle.vfa_read.proofs.Words.{same_text, same_itself, width_is, is_width}
use Rattle.std.proofs.Common.{arith}

pub not_same : (a b : List ℕ) → (a ≡ b → ⊥) → false ≡ bytes_eq a b
not_same a b h = go (bytes_eq a b) refl
  where
    go : (t : Bool) → bytes_eq a b ≡ t → false ≡ bytes_eq a b
    go true e = absurd (h (same_text a b e))
    go false e = sym e

pub is_same : (a b : List ℕ) → a ≡ b → bytes_eq a b ≡ true
is_same a b e = ap (bytes_eq a) (sym e) ∙ same_itself a

-- what stands after a prefix

pub prefix_none : (text prefix : List ℕ) → bytes_eq (take (length prefix) text) prefix ≡ false → (rest : List ℕ) → text ≡ prefix ++ rest → ⊥
prefix_none text prefix e rest is =
    let t : take (length prefix) text ≡ prefix = ap (take (length prefix)) is ∙ take-append_seam prefix rest in
    true≢false (sym (is_same (take (length prefix) text) prefix t) ∙ e)

pub prefix_some : (text prefix rest : List ℕ) → bytes_eq (take (length prefix) text) prefix ≡ true → rest ≡ drop (length prefix) text → text ≡ prefix ++ rest
prefix_some text prefix rest e is =
    sym (take-append-drop (length prefix) text) ∙ ap (λ z. z ++ drop (length prefix) text) (same_text (take (length prefix) text) prefix e) ∙ ap (λ z. prefix ++ z) (sym is)

-- the parts of a name

module _ (name intrinsic : List ℕ) (w : ℕ) where
  whole : callee intrinsic w ≡ codes "llvm." ++ (intrinsic ++ (codes "." ++ type_word w))
  whole = ap (λ z. codes "llvm." ++ z) (append_assoc intrinsic (codes ".") (type_word w))

  after_llvm : (one : List ℕ) → name ≡ codes "llvm." ++ one → name ≡ callee intrinsic w → one ≡ intrinsic ++ (codes "." ++ type_word w)
  after_llvm one is e = append_cancel_left (codes "llvm.") one (intrinsic ++ (codes "." ++ type_word w)) (sym is ∙ e ∙ whole)

  after_intrinsic : (one two : List ℕ) → name ≡ codes "llvm." ++ one → one ≡ intrinsic ++ two → name ≡ callee intrinsic w → two ≡ codes "." ++ type_word w
  after_intrinsic one two is then_is e = append_cancel_left intrinsic two (codes "." ++ type_word w) (sym then_is ∙ after_llvm one is e)

  after_dot : (one two three : List ℕ) → name ≡ codes "llvm." ++ one → one ≡ intrinsic ++ two → two ≡ codes "." ++ three → name ≡ callee intrinsic w → three ≡ type_word w
  after_dot one two three is then_is last_is e = append_cancel_left (codes ".") three (type_word w) (sym last_is ∙ after_intrinsic one two is then_is e)

  pub no_intrinsic : (one : List ℕ) → name ≡ codes "llvm." ++ one → ((rest : List ℕ) → one ≡ intrinsic ++ rest → ⊥) → false ≡ bytes_eq name (callee intrinsic w)
  no_intrinsic one is none = not_same name (callee intrinsic w) (λ e. none (codes "." ++ type_word w) (after_llvm one is e))

  pub no_dot : (one two : List ℕ) → name ≡ codes "llvm." ++ one → one ≡ intrinsic ++ two → ((rest : List ℕ) → two ≡ codes "." ++ rest → ⊥) → false ≡ bytes_eq name (callee intrinsic w)
  no_dot one two is then_is none = not_same name (callee intrinsic w) (λ e. none (type_word w) (after_intrinsic one two is then_is e))

  pub no_type : (one two three : List ℕ) → name ≡ codes "llvm." ++ one → one ≡ intrinsic ++ two → two ≡ codes "." ++ three → IsWidth w → None ≡ type_width three → false ≡ bytes_eq name (callee intrinsic w)
  no_type one two three is then_is last_is h t = not_same name (callee intrinsic w)
      (λ e. let found = is_width w h in let last = after_dot one two three is then_is last_is e in let k = ap type_width last in cc)

  pub one_type : (one two three : List ℕ) (found : ℕ) → name ≡ codes "llvm." ++ one → one ≡ intrinsic ++ two → two ≡ codes "." ++ three → IsWidth w → Some found ≡ type_width three → nat_eq found w ≡ bytes_eq name (callee intrinsic w)
  one_type one two three found is then_is last_is h t = go (nat_eq found w) refl
    where
      same : nat_eq found w ≡ true → name ≡ callee intrinsic w
      same e = let v : found ≡ w = eqb-true found w e in
          is ∙ ap (λ z. codes "llvm." ++ z) (then_is ∙ ap (λ z. intrinsic ++ z) (last_is ∙ ap (λ z. codes "." ++ z) ((width_is three found (sym t)).1 ∙ ap type_word v))) ∙ sym whole

      itself : (n : ℕ) → nat_eq n n ≡ true
      itself n = grind (arith, nat_tests)

      differs : nat_eq found w ≡ false → name ≡ callee intrinsic w → ⊥
      differs e s =
          let last = after_dot one two three is then_is last_is s in
          let v = some_is found w (t ∙ ap type_width last ∙ is_width w h) in
          true≢false (sym (itself found) ∙ ap (nat_eq found) v ∙ e)

      go : (b : Bool) → nat_eq found w ≡ b → nat_eq found w ≡ bytes_eq name (callee intrinsic w)
      go true e = e ∙ sym (is_same name (callee intrinsic w) (same e))
      go false e = e ∙ not_same name (callee intrinsic w) (differs e)
