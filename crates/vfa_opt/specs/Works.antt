-- The work on one item of a module, and what consecutive items make.
use Rattle.std.specs.Prelude.{◌≡◌, ◌≤◌, ⊤, ℕ, Bool, true, List, [], ◌∷◌, ◌++◌, ◌+◌, length, map, flat_map, slice_get, slice_range, All, Option, Some, None, Ok, IfSome, if◌then◌else◌, bytes_eq}
use Rattle.std.specs.Borrow.{Bor}
use Rattle.vfa_ir.specs.declared.functions.Function.{Function}
use Rattle.vfa_ir.specs.DefinedNames.{first_repeated}
use Rattle.vfa_module.specs.declared.items.Item.{Item}
use Rattle.vfa_module.specs.Split.{split_of}
use Rattle.vfa_opt.specs.declared.portions.Accepted.{Accepted}
use Rattle.vfa_opt.specs.declared.portions.Portion.{Portion}
use Rattle.vfa_opt.specs.declared.refusals.Refused.{Refused}
use Rattle.vfa_opt.specs.declared.work.Carried.{Carried}
use Rattle.vfa_opt.specs.declared.work.Worked.{Worked}
use Rattle.vfa_opt.specs.declared.writings.Writing.{Writing}
use Rattle.vfa_opt.specs.Module.{Piece, accepted, ArePieces, AreTexts, IsModule, IsPiece, IsPieceText, carried_functions, function_named, kept_bytes, note_text, notes_of, piece_name, piece_carried, piece_note}
use Rattle.vfa_opt.specs.Sound.{IsSoundPiece}

-- offsets in order within a text
pub record IsRange (input : List ℕ) (start end : ℕ) : Type 0 where
  pub order : start ≤ end
  pub within : end ≤ length input

-- an item whose offsets lie so, and whose line is one of the text
abbrev pub IsPlaced : List ℕ → Item → Type 0
IsPlaced input (Item.Lines start end) = IsRange input start end
IsPlaced input (Item.Define start end line) = IsRange input start end × (line ≤ length input + 1)

-- the bytes of an item
abbrev pub item_bytes : List ℕ → Item → List ℕ
item_bytes input (Item.Lines start end) = slice_range input start end
item_bytes input (Item.Define start end line) = slice_range input start end

-- what is written where this was made of an item
abbrev pub worked_text : Writing → List ℕ → Worked → List ℕ
worked_text writing input (Worked.Copied start end) = kept_bytes writing (slice_range input start end)
worked_text writing input (Worked.Printed text name) = text.items
worked_text writing input (Worked.Carried start end function) = kept_bytes writing (slice_range input start end)

-- the note on it
abbrev pub worked_note : Worked → List ℕ
worked_note (Worked.Copied start end) = []
worked_note (Worked.Printed text name) = []
worked_note (Worked.Carried start end function) = note_text function

-- the name of an accepted function
abbrev pub worked_name : Worked → Option (List ℕ)
worked_name (Worked.Copied start end) = None
worked_name (Worked.Printed text name) = Some name
worked_name (Worked.Carried start end function) = None

-- the function that stays as it is
abbrev pub worked_carried : Worked → Option Carried
worked_carried (Worked.Copied start end) = None
worked_carried (Worked.Printed text name) = None
worked_carried (Worked.Carried start end function) = Some function

-- its bytes are bytes of the text
abbrev pub IsWithin : List ℕ → Worked → Type 0
IsWithin input (Worked.Copied start end) = IsRange input start end
IsWithin input (Worked.Printed text name) = ⊤
IsWithin input (Worked.Carried start end function) = IsRange input start end

-- What is made of a piece: its text, the note, the name where it is an accepted function, and the function with its
-- reason where it stays as it is.
pub record IsWorkOn (writing : Writing) (input : List ℕ) (piece : Piece) (worked : Worked) : Type 0 where
  pub text : IsPieceText writing piece (worked_text writing input worked)
  pub sound : IsSoundPiece writing piece
  pub note : worked_note worked ≡ piece_note piece
  pub name : worked_name worked ≡ piece_name piece
  pub carried : worked_carried worked ≡ piece_carried piece
  pub within : IsWithin input worked

-- what is made of an item
pub record IsWorked (writing : Writing) (input : List ℕ) (item : Item) (worked : Worked) : Type 0 where
  pub piece : Piece
  pub is : IsPiece input item piece
  pub work : IsWorkOn writing input piece worked

-- Portions

-- a function of the name, if there is one, and the item that it stands in
abbrev pub standing_in : Item → Option (List ℕ) → List Accepted
standing_in item None = []
standing_in item (Some name) = record { name = name; item = item } ∷ []

-- the accepted functions of items that are these pieces, in order
abbrev pub accepted_in : List Item → List Piece → List Accepted
accepted_in [] pieces = []
accepted_in (item ∷ items) [] = []
accepted_in (item ∷ items) (piece ∷ pieces) = standing_in item (piece_name piece) ++ accepted_in items pieces

-- What consecutive items make: the text, the notes, the accepted functions, how many functions stay as they are, and the
-- first of these.
pub record Makes (writing : Writing) (input : List ℕ) (items : List Item) (out notes : List ℕ) (functions : List Accepted) (count : ℕ)
    (first : Option Carried) : Type 0 where
  pub pieces : List Piece
  pub are : ArePieces input items pieces
  pub texts : AreTexts writing pieces out
  pub sound : All (IsSoundPiece writing) pieces
  pub notes_are : notes ≡ notes_of pieces
  pub functions_are : functions ≡ accepted_in items pieces
  pub count_is : count ≡ length (carried_functions pieces)
  pub first_is : first ≡ slice_get (carried_functions pieces) 0

-- what a portion holds, each by itself
abbrev pub portion_out : Portion → List ℕ
portion_out portion = portion.out.items

abbrev pub portion_notes : Portion → List ℕ
portion_notes portion = portion.notes.items

abbrev pub portion_accepted : Portion → List Accepted
portion_accepted portion = portion.accepted.items

abbrev pub portion_carried : Portion → ℕ
portion_carried portion = portion.carried

abbrev pub portion_first : Portion → Option Carried
portion_first portion = portion.first_carried

abbrev pub IsPortion : Writing → List ℕ → List Item → Portion → Type 0
IsPortion writing input items portion =
    Makes writing input items (portion_out portion) (portion_notes portion) (portion_accepted portion) (portion_carried portion) (portion_first portion)

-- the items of shares, in order
abbrev pub items_in : List (Bor (List Item)) → List Item
items_in shares = flat_map (λ share. share.now) shares

-- the items can be cut so that the parts make these portions, in order
abbrev pub ArePortions : Writing → List ℕ → List Item → List Portion → Type 0
ArePortions writing input items [] = items ≡ []
ArePortions writing input items (portion ∷ later) =
    (own : List Item) × (rest : List Item) × IsPortion writing input own portion × ArePortions writing input rest later × (items ≡ own ++ rest)

-- Modules

-- what all items of a text make
pub record IsMade (writing : Writing) (input : List ℕ) (whole : Portion) : Type 0 where
  pub items : List Item
  pub split : split_of input ≡ Ok items
  pub places : All (IsPlaced input) items
  pub makes : IsPortion writing input items whole

-- the names of functions, in order
abbrev pub names_of : List Accepted → List (List ℕ)
names_of functions = map (λ (function : Accepted). function.name) functions

-- the item of the first function of a name
abbrev pub item_named : List ℕ → List Accepted → Option Item
item_named name [] = None
item_named name (function ∷ later) = if bytes_eq name function.name then Some function.item else item_named name later

-- why a module is refused of which this is made
abbrev pub IsRefusedFor : Bool → Portion → Refused → Type 0
IsRefusedFor strict whole (Refused.DuplicateFunction name) = first_repeated [] (names_of whole.accepted.items) ≡ Some name
IsRefusedFor strict whole (Refused.Strict name reason) =
    (strict ≡ true) × (first_repeated [] (names_of whole.accepted.items) ≡ None) × (whole.first_carried ≡ Some (record { name = name; reason = reason }))
IsRefusedFor strict whole _ = ⊥

-- the item, where there is one, is this function, and there is none where there is no function
abbrev pub IsItemOf : List ℕ → Option Item → Option Function → Type 0
IsItemOf input None None = ⊤
IsItemOf input None (Some f) = ⊥
IsItemOf input (Some item) None = ⊥
IsItemOf input (Some item) (Some f) = IsPiece input item (accepted f)

-- What is written for a module, the notes on it, how many functions stay as they are, and where the first function of each
-- name stands.
pub record IsWritten (writing : Writing) (strict : Bool) (input : List ℕ) (whole : Portion) : Type 0 where
  pub pieces : List Piece
  pub «module» : IsModule strict input pieces
  pub texts : AreTexts writing pieces whole.out.items
  pub sound : All (IsSoundPiece writing) pieces
  pub notes_are : whole.notes.items ≡ notes_of pieces
  pub count : whole.carried ≡ length (carried_functions pieces)
  pub named : (name : List ℕ) → IsItemOf input (item_named name whole.accepted.items) (function_named name pieces)
  pub places : (name : List ℕ) → IfSome (item_named name whole.accepted.items) (IsPlaced input)
