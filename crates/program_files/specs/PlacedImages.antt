-- What the placing of a program file gives.
use Rattle.std.specs.Prelude.{◌≡◌, ℕ, ◌-◌, ◌*◌, ◌%◌, ◌≤◌, List, Option}
use Rattle.program_files.specs.Fields.{entry_of}
use Rattle.program_files.specs.Programs.{segments_of}
use Rattle.program_files.specs.Faults.{first_fault}
use Rattle.program_files.specs.Images.{top_of, heap_start_of, place_faults, IsImage, memory_of}
use Rattle.program_files.specs.declared.fault.ElfFault.{ElfFault}
use Rattle.program_files.specs.declared.image.Space.{Space}
use Rattle.program_files.specs.declared.image.Image.{Image}

-- 64 KiB to 64 MiB of memory, 4 KiB to 1 MiB for each stack, all of whole pages, and 1 to 256
-- harts
pub record IsAllowedSpace (space : Space) : Type 0 where
  pub memory_low : 0x10000 ≤ space.memory
  pub memory_high : space.memory ≤ 0x4000000
  pub memory_pages : space.memory % 4096 ≡ 0
  pub stack_low : 4096 ≤ space.stack
  pub stack_high : space.stack ≤ 0x100000
  pub stack_pages : space.stack % 4096 ≡ 0
  pub harts_low : 1 ≤ space.harts
  pub harts_high : space.harts ≤ 256

-- the first fault of a file that is placed
abbrev pub place_fault : Space → List ℕ → Option ElfFault
place_fault space file = first_fault (place_faults space.memory (space.harts * space.stack)) file

-- the image of a file in a space
pub record IsImageOf (file : List ℕ) (space : Space) (image : Image) : Type 0 where
  pub memory : IsImage (segments_of file) space.memory image.memory
  pub entry : image.entry ≡ entry_of file
  pub heap_start : image.heap_start ≡ heap_start_of (segments_of file)
  pub top : image.top ≡ top_of space.memory (segments_of file)
  pub heap_end : image.heap_end ≡ image.top - space.harts * space.stack
  pub room : image.heap_start ≤ image.heap_end
  pub stack : image.stack ≡ space.stack
  pub harts : image.harts ≡ space.harts

-- it, as a value
abbrev pub image_of : Space → List ℕ → Image
image_of space file =
    let segments = segments_of file in
    let top = top_of space.memory segments in
    record {
      memory = memory_of space.memory segments;
      entry = entry_of file;
      heap_start = heap_start_of segments;
      heap_end = top - space.harts * space.stack;
      top = top;
      stack = space.stack;
      harts = space.harts;
    }
