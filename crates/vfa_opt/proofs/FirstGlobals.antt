-- The first global name among tokens, from an index on.
use Rattle.std.proofs.Common.{◌≡◌, ℕ, suc, ◌+◌, ◌<◌, ◌≤◌, List, ◌∷◌, length, drop, get_or, Option, Some, None, refl, sym, ◌∙◌, ap, drop-cons, add-one}
use Rattle.std.proofs.lemmas.List.{drop_all}
use Rattle.vfa_ir.specs.declared.tokens.Token.{Token}
use Rattle.vfa_ir.specs.declared.tokens.TokenKind.{TokenKind}
use Rattle.vfa_opt.specs.Module.{first_global}

first_by : (kind : TokenKind) (t : Token) (rest : Option Token) → Option Token
first_by kind t rest = elim kind [ TokenKind.Global ↦ Some t | _ ↦ rest ]

first_here : (t : Token) (rest : List Token) → t.kind ≡ TokenKind.Global → first_global (t ∷ rest) ≡ Some t
unfolding first_by
first_here t rest is = ap (λ kind. first_by kind t (first_global rest)) is

other_kind : (kind : TokenKind) (t : Token) (rest : Option Token) → (kind ≡ TokenKind.Global → ⊥) → first_by kind t rest ≡ rest
unfolding first_by
other_kind TokenKind.Global t rest unlike = absurd (unlike refl)
other_kind TokenKind.Local t rest unlike = refl
other_kind TokenKind.Label t rest unlike = refl
other_kind TokenKind.Meta t rest unlike = refl
other_kind TokenKind.Group t rest unlike = refl
other_kind TokenKind.Number t rest unlike = refl
other_kind TokenKind.Word t rest unlike = refl
other_kind TokenKind.String t rest unlike = refl
other_kind TokenKind.Mark t rest unlike = refl
other_kind TokenKind.Other t rest unlike = refl

first_later : (t : Token) (rest : List Token) → (t.kind ≡ TokenKind.Global → ⊥) → first_global (t ∷ rest) ≡ first_global rest
unfolding first_by
first_later t rest unlike = other_kind t.kind t (first_global rest) unlike

pub drop_at : {A : Type 0} (xs : List A) (i : ℕ) (x : A) → i < length xs → x ≡ get_or xs i x → drop i xs ≡ x ∷ drop (i + 1) xs
drop_at xs i x lt is =
    let k : drop (suc i) xs ≡ drop (i + 1) xs = ap (λ n. drop n xs) (sym (add-one i)) in
    drop-cons xs i x lt ∙ ap (λ y. y ∷ drop (suc i) xs) (sym is) ∙ ap (λ r. x ∷ r) k

pub found : (all : List Token) (i : ℕ) (t : Token) → i < length all → t ≡ get_or all i t → first_global (drop i all) ≡ first_global all →
    t.kind ≡ TokenKind.Global → Some t ≡ first_global all
found all i t lt is so_far kind = sym (first_here t (drop (i + 1) all) kind) ∙ ap first_global (sym (drop_at all i t lt is)) ∙ so_far

pub passed : (all : List Token) (i : ℕ) (t : Token) → i < length all → t ≡ get_or all i t → first_global (drop i all) ≡ first_global all →
    (t.kind ≡ TokenKind.Global → ⊥) → first_global (drop (i + 1) all) ≡ first_global all
passed all i t lt is so_far kind = sym (first_later t (drop (i + 1) all) kind) ∙ ap first_global (sym (drop_at all i t lt is)) ∙ so_far

pub none : (all : List Token) (i : ℕ) → length all ≤ i → first_global (drop i all) ≡ first_global all → ◌≡◌ {A = Option Token} None (first_global all)
none all i past so_far = sym (ap first_global (drop_all i all past)) ∙ so_far
