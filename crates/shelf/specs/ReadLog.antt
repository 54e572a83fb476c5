-- What a read has given, as the log of a shelf notes it.
use Rattle.shelf.specs.Shelf.{Given}
use Rattle.shelf.specs.declared.read_log.ReadBytes.{ReadBytes}

abbrev pub given_in : ReadBytes → Given
given_in read =
    record {
      name = read.name.now;
      at = read.at;
      room = read.room;
      bytes = read.bytes.now;
    }
