-- What the worked runs begin with.
use Rattle.std.specs.Prelude.{List, ◌∷◌, ◌++◌, replicate, codes, Some, None}
use Rattle.xrf_base.specs.declared.site.Site.TheVariants as site
use Rattle.xrf_base.specs.Values.{slot_of}
use Rattle.xrf_logrec.specs.declared.records.LogRec.TheVariants as rec
use Rattle.xrf_setup.specs.declared.choice.Choice.{Choice}
use Rattle.xrf_setup.specs.declared.choice.Choice.TheVariants as choice
use Rattle.xrf_trace.specs.declared.entry.Act.TheVariants as act
use Rattle.xrf_trace.specs.declared.entry.Entry.{Entry}
use Rattle.xrf_trace.specs.declared.entry.Land.TheVariants as land
use Rattle.xrf_trace.specs.declared.entry.Who.TheVariants as who
use Rattle.xrf_examples.specs.Making.{entry_of, unit_of}
use Rattle.xrf_examples.specs.Beginnings.{restarted, to_restarted}

-- The first unit of the restarted active has put a record that was there.
abbrev pub to_put : List Choice
to_put =
    to_restarted ++ replicate 6 (choice.Step site.A)

abbrev pub put : List Entry
put =
    entry_of 0 who.A 1 (act.FileWrite (unit_of 1 1) 1 (codes "NEW")) land.Full ∷
    entry_of 0 who.A 1 (act.LogOpen 0 (rec.Put (unit_of 1 1) 1 (slot_of (Some (codes "OLD"))))) land.Full ∷
    entry_of 0 who.A 1 (act.LogBody 0 (rec.Put (unit_of 1 1) 1 (slot_of (Some (codes "OLD"))))) land.Full ∷
    entry_of 0 who.A 1 (act.FileRead 1) land.Full ∷
    entry_of 0 who.A 1 (act.Item 2) land.Full ∷
    entry_of 0 who.A 1 (act.Item 1) land.Full ∷
    restarted

-- That unit has put a second record, and has written the body of its commit.
abbrev pub to_committing : List Choice
to_committing =
    to_put ++ replicate 7 (choice.Step site.A)

abbrev pub committing : List Entry
committing =
    entry_of 0 who.A 1 (act.LogBody 2 (rec.Commit (unit_of 1 1))) land.Full ∷
    entry_of 0 who.A 1 (act.Item 4) land.Full ∷
    entry_of 0 who.A 1 (act.FileWrite (unit_of 1 1) 3 (codes "SECOND")) land.Full ∷
    entry_of 0 who.A 1 (act.LogOpen 1 (rec.Put (unit_of 1 1) 3 (slot_of None))) land.Full ∷
    entry_of 0 who.A 1 (act.LogBody 1 (rec.Put (unit_of 1 1) 3 (slot_of None))) land.Full ∷
    entry_of 0 who.A 1 (act.FileRead 3) land.Full ∷
    entry_of 0 who.A 1 (act.Item 3) land.Full ∷
    put

-- Two units of the restarted active met at a record; one was rolled back, the other committed.
abbrev pub to_answered : List Choice
to_answered =
    to_restarted ++ replicate 19 (choice.Step site.A)

abbrev pub answered : List Entry
answered =
    entry_of 0 who.A 1 (act.Item 11) land.Full ∷
    entry_of 0 who.A 1 (act.Item 10) land.Full ∷
    entry_of 0 who.A 1 (act.Item 9) land.Full ∷
    entry_of 0 who.A 1 (act.FileRead 1) land.Full ∷
    entry_of 0 who.A 1 (act.Item 8) land.Full ∷
    entry_of 0 who.A 1 (act.LogOpen 1 (rec.Backout (unit_of 1 1))) land.Full ∷
    entry_of 0 who.A 1 (act.LogBody 1 (rec.Backout (unit_of 1 1))) land.Full ∷
    entry_of 0 who.A 1 (act.Undo 1 (slot_of None)) land.Full ∷
    entry_of 0 who.A 1 (act.Item 7) land.Full ∷
    entry_of 0 who.A 1 (act.Item 6) land.Full ∷
    entry_of 0 who.A 1 (act.Item 5) land.Full ∷
    entry_of 0 who.A 1 (act.Item 4) land.Full ∷
    entry_of 0 who.A 1 (act.FileWrite (unit_of 1 1) 1 (codes "X")) land.Full ∷
    entry_of 0 who.A 1 (act.LogOpen 0 (rec.Put (unit_of 1 1) 1 (slot_of None))) land.Full ∷
    entry_of 0 who.A 1 (act.LogBody 0 (rec.Put (unit_of 1 1) 1 (slot_of None))) land.Full ∷
    entry_of 0 who.A 1 (act.FileRead 1) land.Full ∷
    entry_of 0 who.A 1 (act.Item 3) land.Full ∷
    entry_of 0 who.A 1 (act.Item 2) land.Full ∷
    entry_of 0 who.A 1 (act.Item 1) land.Full ∷
    restarted
