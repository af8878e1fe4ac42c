-- The command block says what the command is: the words that the reader gives are those that the writer takes.
use Rattle.std.specs.Prelude.{◌≡◌, List, ℕ, ◌<◌, length, Some}
use Rattle.rules.specs.ReadBack.{CommandFits}
use Rattle.rules.specs.declared.Telecommand.{Telecommand}
use Rattle.ground_blocks.specs.Fields.{header_in, command_in, data_in, block_words}

-- numbers fit their types
pub record FieldsFit (f : Telecommand) : Type 0 where
  pub count : f.header.count < 65536
  pub unit : f.header.unit < 256
  pub transaction : f.header.transaction < 65536
  pub command : CommandFits f.command

pub record CommandRoundTrip : Type 0 where
  pub header : (f : Telecommand) (ws : List ℕ) → FieldsFit f → header_in (block_words f ws) ≡ f.header
  pub command : (f : Telecommand) (ws : List ℕ) → FieldsFit f → length ws ≡ 12 → command_in (block_words f ws) ≡ Some f.command
  pub words : (f : Telecommand) (ws : List ℕ) → length ws ≡ 12 → data_in (block_words f ws) ≡ ws
