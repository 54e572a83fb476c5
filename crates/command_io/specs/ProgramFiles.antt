-- The program that a command loads and places under its settings.
use Rattle.std.specs.Prelude.{◌≡◌, ◌≤◌, ◌+◌, ◌*◌, ◌%◌, ℕ, ◌^◌, nat_lt, List, length, Option, Some}
use Rattle.std.specs.Prelude.{if◌then◌else◌}
use Rattle.std.specs.Option.{option_or, option_map}
use Rattle.command_line.specs.Set.{AskedSettings}
use Rattle.shelf.specs.Shelf.{content}
use Rattle.settings.specs.declared.values.Settings.{Settings}
use Rattle.program_files.specs.declared.image.Space.{Space}
use Rattle.program_files.specs.declared.image.Image.{Image}
use Rattle.program_files.specs.declared.fault.ElfFault.{ElfFault}
use Rattle.program_files.specs.declared.fault.ElfFault.TheVariants as elf
use Rattle.program_files.specs.Faults.{read_fault, symbols_fault}
use Rattle.program_files.specs.PlacedImages.{place_fault}
use Rattle.command_io.specs.Readings.{Reading, reading}
use Rattle.command_io.specs.SettingsFiles.{chosen_settings}
use Rattle.command_io.specs.declared.status.Status.{Status}
use Rattle.command_io.specs.declared.status.Status.TheVariants as status

abbrev pub space_of : Settings → Space
space_of settings = record {
  memory = settings.memory;
  stack = settings.stack;
  harts =
      settings.harts;
}

-- the first fault of a program file: as it is viewed, as it is placed, and then of its symbols
abbrev pub program_fault : Space → List ℕ → Option ElfFault
program_fault space file = option_or (read_fault file)
    (option_or (place_fault space file) (symbols_fault file))

-- a program file has at most 16 MiB
abbrev pub program_refusal : Settings → List ℕ → Option Status
program_refusal settings file =
    if nat_lt (2 ^ 24) (length file) then Some (status.Elf elf.TooLong)
    else option_map status.Elf (program_fault (space_of settings) file)

-- a guest can start in an image: at a whole instruction, with a heap of whole blocks below the
-- stacks
pub record IsStartable (image : Image) : Type 0 where
  pub entry : image.entry % 4 ≡ 0
  pub heap_start : image.heap_start % 16 ≡ 0
  pub heap_end : image.heap_end % 16 ≡ 0
  pub heap : image.heap_start ≤ image.heap_end
  pub stacks : image.heap_end + image.harts * image.stack ≡ image.top

-- the program of a name, under settings that are asked for
abbrev pub program_reading : AskedSettings → List ℕ → Reading
program_reading settings name =
    reading name (λ files. program_refusal (chosen_settings settings files) (content files name))
