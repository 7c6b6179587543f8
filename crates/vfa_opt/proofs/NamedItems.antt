-- The item of the first accepted function of a name.
use Rattle.std.proofs.Common.{◌≡◌, ℕ, Bool, true, false, if◌then◌else◌, Option, Some, None, IfSome, List, [], ◌∷◌, bytes_eq, All, refl, ap}
use Rattle.std.proofs.lemmas.List.Elements.{All-head, All-tail}
use Rattle.vfa_ir.specs.declared.functions.Function.{Function}
use Rattle.vfa_module.specs.declared.items.Item.{Item}
use Rattle.vfa_opt.specs.Module.{Piece, copied, accepted, carried, ArePieces, IsPiece, function_named, function_names}
use Rattle.vfa_opt.specs.Works.{IsItemOf, accepted_in, item_named, names_of}

-- the names are those of the pieces
pub same_names : (input : List ℕ) (items : List Item) (pieces : List Piece) → ArePieces input items pieces →
    names_of (accepted_in items pieces) ≡ function_names pieces
same_names input [] [] are = refl
same_names input [] (p ∷ pieces) are = absurd are
same_names input (i ∷ items) [] are = absurd are
same_names input (i ∷ items) (copied bytes ∷ pieces) are = same_names input items pieces are.1
same_names input (i ∷ items) (carried bytes why ∷ pieces) are = same_names input items pieces are.1
same_names input (i ∷ items) (accepted f ∷ pieces) are = ap (λ l. f.name ∷ l) (same_names input items pieces are.1)

module _ (name input : List ℕ) where
  -- the function is the one of the name, or one of the later ones is
  one_named : (item : Item) (f : Function) (x : Option Item) (y : Option Function) → IsPiece input item (accepted f) → IsItemOf input x y → (b : Bool) →
      IsItemOf input (if b then Some item else x) (elim (if b then Some f else None) [ None ↦ y | Some g ↦ Some g ])
  one_named item f x y is rest true = is
  one_named item f x y is rest false = rest

  pub named_items : (items : List Item) (pieces : List Piece) → ArePieces input items pieces →
      IsItemOf input (item_named name (accepted_in items pieces)) (function_named name pieces)
  named_items [] [] are = tt
  named_items [] (p ∷ pieces) are = absurd are
  named_items (i ∷ items) [] are = absurd are
  named_items (i ∷ items) (copied bytes ∷ pieces) are = named_items items pieces are.1
  named_items (i ∷ items) (carried bytes why ∷ pieces) are = named_items items pieces are.1
  named_items (i ∷ items) (accepted f ∷ pieces) are =
      one_named i f (item_named name (accepted_in items pieces)) (function_named name pieces) are.0 (named_items items pieces are.1) (bytes_eq name f.name)

  -- it is one of the items
  module _ (P : Item → Type 0) where
    one_placed : (item : Item) (x : Option Item) → P item → IfSome x P → (b : Bool) → IfSome (if b then Some item else x) P
    one_placed item x is rest true = is
    one_placed item x is rest false = rest

    pub placed_item : (items : List Item) (pieces : List Piece) → ArePieces input items pieces → All P items →
        IfSome (item_named name (accepted_in items pieces)) P
    placed_item [] [] are each = tt
    placed_item [] (p ∷ pieces) are each = absurd are
    placed_item (i ∷ items) [] are each = absurd are
    placed_item (i ∷ items) (copied bytes ∷ pieces) are each = placed_item items pieces are.1 (All-tail P i items each)
    placed_item (i ∷ items) (carried bytes why ∷ pieces) are each = placed_item items pieces are.1 (All-tail P i items each)
    placed_item (i ∷ items) (accepted f ∷ pieces) are each =
        one_placed i (item_named name (accepted_in items pieces)) (All-head P i items each)
        (placed_item items pieces are.1 (All-tail P i items each)) (bytes_eq name f.name)
