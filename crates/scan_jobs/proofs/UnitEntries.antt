-- The blocks of a scan and their pages: nothing is told beside them.
use Rattle.page_check.specs.SynchronousAnswer.{Entry, Given}

abbrev pub E : Type 0
E = Entry (Unit {0})

abbrev pub G : Type 0
G = Given (Unit {0})
