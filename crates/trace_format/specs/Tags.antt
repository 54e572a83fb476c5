-- The first byte of each record, in every version.
use Rattle.std.specs.Prelude.{ℕ, ◌+◌, ◌*◌, ◌==◌, Option, Some, None, if◌then◌else◌, IsTrue}
use Rattle.base.specs.Touch.{is_access_size}
use Rattle.base.specs.declared.access.Kind.{Kind}
use Rattle.base.specs.declared.access.Kind.TheVariants.{Read, Write}
use Rattle.trace_format.specs.declared.record.Version.{Version}
use Rattle.trace_format.specs.declared.record.Version.TheVariants.{One, Two, Three, Four}
use Rattle.trace_format.specs.declared.tag.Tag.{Tag}
use Rattle.trace_format.specs.declared.tag.Tag.TheVariants as tags

abbrev pub half_of : Kind → ℕ
half_of Read = 1
half_of Write = 2

-- A read of version 1 has the tag 1 and a write 2. In the later versions that is the high half of
-- the byte, and the size is the low half.
abbrev pub number_of : Tag → ℕ
number_of (tags.Touch kind) = half_of kind
number_of (tags.ShortTouch kind size) = 16 * half_of kind + size
number_of (tags.SitedTouch kind size) = 16 * half_of kind + size
number_of tags.Alloc = 3
number_of tags.Free = 4
number_of tags.Symbol = 5
number_of tags.End = 6

abbrev pub IsTag : Tag → Type 0
IsTag (tags.ShortTouch kind size) = IsTrue (is_access_size size)
IsTag (tags.SitedTouch kind size) = IsTrue (is_access_size size)
IsTag _ = Unit {0}

-- the records that all versions spell in one way
abbrev pub other_tag_of : ℕ → Option Tag
other_tag_of byte =
    if byte == 3 then Some tags.Alloc
    else (if byte == 4 then Some tags.Free
    else (if byte == 5 then Some tags.Symbol
    else (if byte == 6 then Some tags.End
    else None)))

-- the record that a byte begins where that of an access states its size
abbrev pub sized_tag_of : (Kind → ℕ → Tag) → ℕ → Option Tag
sized_tag_of touch byte =
    if byte == 17 then Some (touch Read 1)
    else (if byte == 18 then Some (touch Read 2)
    else (if byte == 20 then Some (touch Read 4)
    else (if byte == 33 then Some (touch Write 1)
    else (if byte == 34 then Some (touch Write 2)
    else (if byte == 36 then Some (touch Write 4)
    else other_tag_of byte)))))

-- the record that a byte begins
abbrev pub tag_of : Version → ℕ → Option Tag
tag_of One byte =
    if byte == 1 then Some (tags.Touch Read)
    else (if byte == 2 then Some (tags.Touch Write)
    else other_tag_of byte)
tag_of Two byte = sized_tag_of tags.ShortTouch byte
tag_of Three byte = sized_tag_of tags.SitedTouch byte
tag_of Four byte = sized_tag_of tags.SitedTouch byte
