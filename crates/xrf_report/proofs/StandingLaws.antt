-- The lines behind those of the acts are lines of a report, so many bytes at most.
use Rattle.std.proofs.Common.{◌≡◌, ◌≤◌, ◌<◌, ◌+◌, ◌*◌, ℕ, zero, suc, Bool, true, false, nat_le, if◌then◌else◌, List, [], ◌∷◌, ◌++◌, codes, length, take, drop, Option, Some, None, refl, arith}
use Rattle.std.specs.Fmt.{decimal}
use Rattle.std.specs.List.{AllByRecursion, list_all}
use Rattle.std.proofs.Math.Nat.{mul-suc}
use Rattle.xrf_base.specs.Values.{slot_reading}
use Rattle.xrf_base.specs.declared.items.ItemAnswer.{ItemAnswer}
use Rattle.xrf_base.specs.declared.items.ItemAnswer.TheVariants.{Done, Got, Empty, Locked, LogFull, NotOpen, NameUsed, UnitsFull, BadRrn, TermUsed, TermsFull, NotOn, UserOn, NoUser}
use Rattle.xrf_base.specs.declared.site.Site.{Site}
use Rattle.xrf_ctl.specs.Control.{ControlRecord, IsControl}
use Rattle.xrf_setup.specs.declared.format.Format.{Format}
use Rattle.xrf_setup.specs.declared.format.Format.TheVariants.{One, Two}
use Rattle.xrf_terms.specs.declared.rows.How.{How}
use Rattle.xrf_terms.specs.declared.rows.How.TheVariants.{On, Tracked, Switched, Acquired}
use Rattle.xrf_terms.specs.declared.rows.Row.{Row}
use Rattle.xrf_report.specs.Answers.{answer_text}
use Rattle.xrf_report.specs.Files.{slot_line, file_text}
use Rattle.xrf_report.specs.Fits.{Is32, UserFits, AnswerFits, RowFits, HeldFits, RecordsFit}
use Rattle.xrf_report.specs.Standing.{tick_line, control_line, log_line, done_line}
use Rattle.xrf_report.specs.Terminals.{how_word, row_user_text, row_text, row_line, rows_text}
use Rattle.xrf_report.proofs.ActParts.{site-part, control-part, user-part}
use Rattle.xrf_report.proofs.Lines.{IsTold, nothing, told-wider, both, one}
use Rattle.xrf_report.proofs.Parts.{IsPart, word, no-byte, within, joined, behind-blank, number, short-number, name, value}

-- a word of at most 30 bytes
lone : (text : List ℕ) → nat_le (length text) 30 ≡ true → list_all (nat_le 32) text ≡ true → IsPart 30 text
lone text few passed = within 30 few (word text passed)

-- what an item is answered is a part
pub answer-part : (given : ItemAnswer) → AnswerFits given → IsPart 30 (answer_text given)
answer-part Done fits = lone (codes "DONE") refl refl
answer-part (Got v) fits = joined (word (codes "VALUE ") refl) (value v fits)
answer-part Empty fits = lone (codes "EMPTY") refl refl
answer-part Locked fits = lone (codes "LOCKED") refl refl
answer-part LogFull fits = lone (codes "LOGFULL") refl refl
answer-part NotOpen fits = lone (codes "NOTOPEN") refl refl
answer-part NameUsed fits = lone (codes "NAMEUSED") refl refl
answer-part UnitsFull fits = lone (codes "UNITSFULL") refl refl
answer-part BadRrn fits = lone (codes "BADRRN") refl refl
answer-part TermUsed fits = lone (codes "TERMUSED") refl refl
answer-part TermsFull fits = lone (codes "TERMSFULL") refl refl
answer-part NotOn fits = lone (codes "NOTON") refl refl
answer-part UserOn fits = lone (codes "USERON") refl refl
answer-part NoUser fits = lone (codes "NOUSER") refl refl

pub tick-told : (tick : ℕ) → Is32 tick → IsTold 18 (tick_line tick)
tick-told tick fits = one (joined (word (codes "TICK ") refl) (number tick fits))

pub control-told : (xrf : Format) (control : ControlRecord) → IsControl control → IsTold 111 (control_line xrf control)
control-told xrf control is = one (joined (word (codes "CONTROL ") refl) (control-part xrf control is))

pub log-told : (records committed flight : ℕ) → Is32 records → Is32 committed → Is32 flight → IsTold 56 (log_line records committed flight)
log-told records committed flight a b c =
    one
    (joined (joined (joined (joined (joined (word (codes "LOG ") refl) (number records a)) (word (codes " COMMITTED ") refl)) (number committed b)) (word (codes " FLIGHT ") refl)) (number flight c))

pub done-told : IsTold 7 done_line
done-told = one (word (codes "DONE") refl)

-- the rows of a terminal table
how-part : (how : How) → IsPart 8 (how_word how)
how-part On = within 8 refl (word (codes "ON") refl)
how-part Tracked = within 8 refl (word (codes "TRACKED") refl)
how-part Switched = within 8 refl (word (codes "SWITCHED") refl)
how-part Acquired = within 8 refl (word (codes "ACQUIRED") refl)

row-user-part : (xrf : Format) (user : Option (List ℕ)) → UserFits user → IsPart 9 (row_user_text xrf user)
row-user-part One user fits = within 9 refl no-byte
row-user-part Two user fits = behind-blank (user-part user fits)

row-told : (xrf : Format) (x : Site) (row : Row) → RowFits row → IsTold 47 (row_line xrf x row)
row-told xrf x row fits =
    one
    (joined (joined (word (codes "TERM ") refl) (site-part x))
    (behind-blank (joined (joined (joined (name row.term fits.0) (behind-blank (number row.class fits.1))) (behind-blank (how-part row.how))) (row-user-part xrf row.user fits.2))))

-- each has at most 47 bytes
pub rows-told : (xrf : Format) (x : Site) (rows : List Row) → AllByRecursion RowFits rows → IsTold (47 * length rows) (rows_text xrf x rows)
rows-told xrf x [] fits = nothing
rows-told xrf x (row ∷ rows) fits =
    let product : 47 * suc (length rows) ≡ 47 * length rows + 47 = mul-suc 47 (length rows) in
    told-wider (omega arith) (both (row-told xrf x row fits.0) (rows-told xrf x rows fits.1))

-- the records of the file
slot-told : (n : ℕ) (held : Option (Option (List ℕ))) → n < 100000 → HeldFits held → IsTold 38 (slot_line n held)
slot-told n None few fits = told-wider (omega arith) (one (joined (joined (word (codes "FILE ") refl) (short-number n few)) (word (codes " DAMAGED") refl)))
slot-told n (Some None) few fits = nothing
slot-told n (Some (Some v)) few fits = one (joined (joined (word (codes "FILE ") refl) (short-number n few)) (behind-blank (value v fits)))

-- each has at most 38 bytes
pub file-told : (slot : ℕ → List ℕ) (count : ℕ) → count ≤ 1000 → RecordsFit slot count → IsTold (38 * count) (file_text slot count)
file-told slot zero few fits = nothing
file-told slot (suc count) few fits =
    let product : 38 * suc count ≡ 38 * count + 38 = mul-suc 38 count in
    told-wider (omega arith) (both (file-told slot count (omega arith) fits.0) (slot-told (suc count) (slot_reading (slot (suc count))) (omega arith) fits.1))
