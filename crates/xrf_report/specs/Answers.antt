-- What items are answered.
use Rattle.std.specs.Prelude.{ℕ, List, ◌++◌, codes}
use Rattle.xrf_base.specs.declared.items.ItemAnswer.{ItemAnswer}
use Rattle.xrf_base.specs.declared.items.ItemAnswer.TheVariants.{Done, Got, Empty, Locked, LogFull, NotOpen, NameUsed, UnitsFull, BadRrn, TermUsed, TermsFull, NotOn, UserOn, NoUser}

abbrev pub answer_text : ItemAnswer → List ℕ
answer_text Done = codes "DONE"
answer_text (Got value) = codes "VALUE " ++ value
answer_text Empty = codes "EMPTY"
answer_text Locked = codes "LOCKED"
answer_text LogFull = codes "LOGFULL"
answer_text NotOpen = codes "NOTOPEN"
answer_text NameUsed = codes "NAMEUSED"
answer_text UnitsFull = codes "UNITSFULL"
answer_text BadRrn = codes "BADRRN"
answer_text TermUsed = codes "TERMUSED"
answer_text TermsFull = codes "TERMSFULL"
answer_text NotOn = codes "NOTON"
answer_text UserOn = codes "USERON"
answer_text NoUser = codes "NOUSER"
