-- What a call has done, or how it failed.
use Rattle.disk_shelf.specs.Done.{Done, WasRead, WasBegun, WasAppended, WasPrinted, ReadingFailed}
use Rattle.disk_shelf.specs.Done.{WritingFailed, PrintingFailed}
use Rattle.disk_shelf.specs.declared.log.Call.{Call}
use Rattle.disk_shelf.specs.declared.log.Call.TheVariants.{Read, Begin, Append, Print, ReadFailed}
use Rattle.disk_shelf.specs.declared.log.Call.TheVariants.{WriteFailed, PrintFailed}

abbrev pub done_in : Call → Done
done_in (Read name at room bytes) = WasRead name.now at room bytes.now
done_in (Begin name) = WasBegun name.now
done_in (Append name piece) = WasAppended name.now piece.now
done_in (Print piece) = WasPrinted piece.now
done_in (ReadFailed name error) = ReadingFailed name.now error
done_in (WriteFailed name error) = WritingFailed name.now error
done_in (PrintFailed error) = PrintingFailed error
