-- A local begins a line, whether it names something or not, and a label begins a block.
use Rattle.std.proofs.Common.{◌≡◌, ℕ, true, List, Option, Some, None, refl}
use Rattle.vfa_ir.specs.Grammar.{may_follow_parameters}
use Rattle.vfa_ir.specs.Lexemes.{local, global, label, nameless_local, nameless_global, nameless_label}
use Rattle.vfa_ir.specs.TokenLexemes.{named}
use Rattle.vfa_read.specs.Headers.{starts_name}
use Rattle.vfa_read.specs.Productions.{starts_line, starts_label}
use Rattle.vfa_read.specs.Trees.{open_after}

pub local_starts : (o : Option (List ℕ)) → starts_line (named local nameless_local o) ≡ true
local_starts None = refl
local_starts (Some name) = refl

pub label_starts : (o : Option (List ℕ)) → starts_label (named label nameless_label o) ≡ true
label_starts None = refl
label_starts (Some name) = refl

pub name_starts : (o : Option (List ℕ)) → starts_name (named local nameless_local o) ≡ true
name_starts None = refl
name_starts (Some name) = refl

-- a name stands between parameters and body, whether it names something or not, and opens no parenthesis

pub local_follows : (o : Option (List ℕ)) → may_follow_parameters (named local nameless_local o) ≡ true
local_follows None = refl
local_follows (Some name) = refl

pub global_follows : (o : Option (List ℕ)) → may_follow_parameters (named global nameless_global o) ≡ true
global_follows None = refl
global_follows (Some name) = refl

pub label_follows : (o : Option (List ℕ)) → may_follow_parameters (named label nameless_label o) ≡ true
label_follows None = refl
label_follows (Some name) = refl

pub local_opens : (n : ℕ) (o : Option (List ℕ)) → open_after n (named local nameless_local o) ≡ Some n
local_opens n None = refl
local_opens n (Some name) = refl

pub global_opens : (n : ℕ) (o : Option (List ℕ)) → open_after n (named global nameless_global o) ≡ Some n
global_opens n None = refl
global_opens n (Some name) = refl

pub label_opens : (n : ℕ) (o : Option (List ℕ)) → open_after n (named label nameless_label o) ≡ Some n
label_opens n None = refl
label_opens n (Some name) = refl
