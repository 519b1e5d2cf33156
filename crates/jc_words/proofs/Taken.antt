-- A parse in two outcomes.
use Rattle.std.proofs.Common.{◌≡◌, true, List, [], ◌∷◌, Some, None, refl}
use Rattle.std.specs.Cmp.{first_so}
use Rattle.clap.specs.Walk.{Row, Text}
use Rattle.clap.specs.Simple.{App, built, is_simple, matches_of}
use Rattle.clap.specs.Faults.{fault_of, is_free_app, is_simple_and_free}
use Rattle.clap.specs.Kinds.{Kinds, IsAmong}
use Rattle.clap.specs.declared.error.kind.ErrorKind.{ErrorKind}
use Rattle.jc_words.specs.Arguments.{taken, unless_fault}

pub simple : (a : App) → is_simple_and_free a ≡ true → is_simple a ≡ true
simple a e = first_so (is_simple a) (is_free_app (built a)) e

-- no fault is listed: the matches
pub taken_some : (a : App) (ws vs : List Text) (rows : List Row) → ws ≡ vs → fault_of a ws ≡ [] → rows ≡ matches_of a ws → Some rows ≡ taken a vs
taken_some a ws vs rows same none there = rw (← same, none, there) refl

listed : (k : ErrorKind) (kinds : Kinds) (rows : List Row) → IsAmong k kinds → None ≡ unless_fault kinds rows
listed k [] rows h = absurd h
listed k (x ∷ xs) rows h = refl

-- a fault is listed: none
pub taken_none : (a : App) (ws vs : List Text) (k : ErrorKind) → ws ≡ vs → IsAmong k (fault_of a ws) → None ≡ taken a vs
taken_none a ws vs k same among = rw (← same) (listed k (fault_of a ws) (matches_of a ws) among)
