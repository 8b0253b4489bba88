use Rattle.journal.specs.Laws.{Laws}
use Rattle.journal.proofs.Reading.{sentence}
use Rattle.journal.proofs.Counting.{counted}
use Rattle.journal.proofs.Back.{written}
use Rattle.journal.proofs.Cuts.{decided, cut}

pub laws : Laws
laws = record { sentence = sentence; counted = counted; written = written; decided = decided; cut = cut }
