-- How the field of a kept write stands for it: 256 times its position, and the number of its hart.
use Rattle.std.specs.Prelude.{◌+◌, ◌*◌, ◌/◌, ◌%◌}
use Rattle.misses.specs.declared.kept_write.KeptWrite.TheInside.{Inside}
use Rattle.misses.specs.declared.line_misses.LastWrite.{LastWrite}

abbrev pub write_of : Inside → LastWrite
write_of k = record { behind = k.both / 256; hart = k.both % 256 }

abbrev pub fields_of : LastWrite → Inside
fields_of w = record { both = w.behind * 256 + w.hart }
