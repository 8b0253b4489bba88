use mathlib.Core.Path.{ap}
use Rattle.nas_c.specs.JournalNumbers.{numbers_written, journal_numbers}
use Rattle.nas_c.proofs.journals.saihdelu_journal.Goals as goal

pub returns : goal.returns
unfolding journal_numbers
returns c =
    rw c.show_written.ensures (ap numbers_written c.write.ensures)
