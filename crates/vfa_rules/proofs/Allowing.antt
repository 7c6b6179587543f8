-- What allows what an operation gives.
use Rattle.std.proofs.Common.{◌≡◌, ℕ, Bool, true, false, if◌then◌else◌, refl, sym, ◌∙◌, ap, subst}
use Rattle.vfa_ir.specs.declared.operations.Op.{Op}
use Rattle.vfa_mean.specs.declared.value.Done.{Done}
use Rattle.vfa_mean.specs.declared.value.Val.{Val}
use Rattle.vfa_mean.specs.Values.{AllowsValue}
use Rattle.vfa_mean.specs.Laws.{AllowsResult, AllowsDone}
use Rattle.vfa_mean.specs.Meaning.{Result, Undefined, Gave, Allowed, of_one, of_two}
use Rattle.vfa_mean.specs.Rows.{number_unless}
use Rattle.vfa_mean.proofs.Refining.{AllowsValue-refl, AllowsValue-trans}
use Rattle.vfa_mean.proofs.Results.{IsOne, one}

pub AllowsResult-refl : (r : Result) → AllowsResult r r
AllowsResult-refl Undefined = tt
AllowsResult-refl (Gave v) = AllowsValue-refl v

pub AllowsResult-trans : (q r s : Result) → AllowsResult q r → AllowsResult r s → AllowsResult q s
AllowsResult-trans Undefined r s h k = tt
AllowsResult-trans (Gave u) Undefined s h k = absurd h
AllowsResult-trans (Gave u) (Gave v) Undefined h k = absurd k
AllowsResult-trans (Gave u) (Gave v) (Gave z) h k = AllowsValue-trans u v z h k

pub same_done : (d d' : Done) → d ≡ d' → AllowsDone d d'
same_done d d' e = subst (AllowsDone d) e (record { each = λ r' given. (r', given, AllowsResult-refl r') })

pub ub_allows : (d : Done) → AllowsDone Done.Ub d
ub_allows d = record { each = λ r' given. (Undefined, refl, tt) }

pub value_allows : (v v' : Val) → AllowsValue v v' → AllowsDone (Done.Is v) (Done.Is v')
value_allows v v' h = record { each = λ r' given. (Gave v, refl, subst (AllowsResult (Gave v)) (sym given) h) }

pub poison_allows : (d : Done) → IsOne d → AllowsDone (Done.Is Val.Poison) d
poison_allows (Done.Is v) is = value_allows Val.Poison v tt
poison_allows Done.Ub is = elim is [ ]
poison_allows (Done.AnyOf w) is = elim is [ ]

-- of a word that is not broken before, none is broken after, and the number is the same
pub unless_allows : (broken broken' : Bool) (n n' : ℕ) → (broken ≡ false → (broken' ≡ false) × (n ≡ n')) →
    AllowsDone (number_unless broken n) (number_unless broken' n')
unless_allows true broken' n n' h = value_allows Val.Poison _ tt
unless_allows false broken' n n' h = let k = h refl in
    same_done _ _ (λ i. number_unless (sym k.0 i) (k.1 i))

pub AllowsDone-trans : (d d' d'' : Done) → AllowsDone d d' → AllowsDone d' d'' → AllowsDone d d''
AllowsDone-trans d d' d'' h k = record {
  each = λ r'' given.
      let second = k.each r'' given in let first = h.each second.0 second.1 in
      (first.0, first.1, AllowsResult-trans first.0 second.0 r'' first.2 second.2);
}
