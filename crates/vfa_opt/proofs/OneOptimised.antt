-- A function is optimised to one function at most.
use Rattle.std.proofs.Common.{◌≡◌, ℕ, subst}
use Rattle.vfa_ir.specs.declared.functions.Function.{Function}
use Rattle.vfa_ir.specs.Printable.{IsPrintable}
use Rattle.vfa_check.specs.Checked.{IsChecked}
use Rattle.vfa_walk.specs.Tables.{IsTableOf}
use Rattle.vfa_walk.specs.TruthLaws.{HasTypedFacts}
use Rattle.vfa_walk.proofs.TruthTables.{one_table_of, table_is_typed}
use Rattle.vfa_xfer.specs.AnyFacts.{HoldsOf, IsAnyFact, fact_type}
use Rattle.vfa_xfer.specs.TransferLaws.{fact_laws}
use Rattle.vfa_xfer.specs.Transfers.{fact_answers}
use Rattle.vfa_rewrite.specs.ByFacts.{FactTable}
use Rattle.vfa_rewrite.specs.Rewriting.{IsRewritten}
use Rattle.vfa_demand.specs.Masks.{AreMasks}
use Rattle.vfa_bits.specs.Narrowed.{IsNarrowed}
use Rattle.vfa_opt.specs.Optimised.{IsOptimised}

-- each fact of the table of a checked function is of its name's type
pub typed_facts : (f : Function) (t : FactTable) → IsChecked f → IsPrintable f → IsTableOf fact_answers f t → HasTypedFacts fact_type IsAnyFact f t
typed_facts f t checked printable is =
    table_is_typed HoldsOf fact_type IsAnyFact fact_answers fact_laws.typed fact_laws.sound f checked.once printable checked.formed.typed checked.formed.defined t is

pub one_table_is : (f : Function) (t u : FactTable) → IsTableOf fact_answers f t → IsTableOf fact_answers f u → t ≡ u
one_table_is f t u is is' = λ i b. one_table_of fact_answers f t u is is' b i

abbrev OneRewritten : Type 0
OneRewritten = (f : Function) (t : FactTable) (g g' : Function) → IsChecked f → IsPrintable f → HasTypedFacts fact_type IsAnyFact f t → IsRewritten f t g → IsRewritten f t g' → g ≡ g'

abbrev OneNarrowed : Type 0
OneNarrowed = (f : Function) (masks others : ℕ → ℕ) (g g' : Function) → AreMasks f masks → AreMasks f others → IsNarrowed f masks g → IsNarrowed f others g' → g ≡ g'

pub optimised_one : OneRewritten → OneNarrowed → (f g g' : Function) → IsChecked f → IsPrintable f → IsOptimised f g → IsOptimised f g' → g ≡ g'
optimised_one rewritten narrowed f g g' checked printable o o' =
    let table = one_table_is f o.table o'.table o.is_table o'.is_table in
    let simpler : o.simpler ≡ o'.simpler =
    rewritten f o'.table o.simpler o'.simpler checked printable (typed_facts f o'.table checked printable o'.is_table)
    (subst (λ t. IsRewritten f t o.simpler) table o.is_rewritten) o'.is_rewritten in
    narrowed o'.simpler o.masks o'.masks g g' (subst (λ h. AreMasks h o.masks) simpler o.are_masks) o'.are_masks
    (subst (λ h. IsNarrowed h o.masks g) simpler o.is_narrowed) o'.is_narrowed
