-- What is printed of an entry is a part of a line.
use Rattle.std.proofs.Common.{◌≡◌, ◌≤◌, ◌-◌, ◌+◌, ℕ, zero, suc, Bool, true, false, IsTrue, is_some, nat_le, List, [], ◌∷◌, ◌++◌, codes, length, map, filter, slice_index_or, if◌then◌else◌, refl, subst, arith}
use Rattle.std.specs.Fmt.{decimal}
use Rattle.std.specs.List.{AllByRecursion, list_all}
use Rattle.std.specs.Str.{bytes_eq}
use Rattle.std.proofs.lemmas.Bool.{leb-true, and_parts}
use Rattle.std.proofs.lemmas.List.{length-append}
use Rattle.xrf_clt.specs.Kept.{Kept}
use Rattle.xrf_clt.specs.Table.{texts_for}
use Rattle.xrf_setup.specs.Commands.{IsKept, kept_text, kept_line}
use Rattle.xrf_setup.specs.Scenario.{Scen, IsScen}
use Rattle.xrf_setup.specs.declared.choice.Landing.{Landing}
use Rattle.xrf_setup.specs.declared.choice.Landing.TheVariants.{Nothing, All, Torn}
use Rattle.xrf_text.specs.Text.{is_printable}
use Rattle.xrf_trace.specs.Acts.{torn_size}
use Rattle.xrf_trace.specs.declared.entry.Act.{Act}
use Rattle.xrf_trace.specs.declared.entry.Act.TheVariants as act
use Rattle.xrf_trace.specs.declared.entry.Entry.{Entry}
use Rattle.xrf_trace.specs.declared.entry.Land.{Land}
use Rattle.xrf_trace.specs.declared.entry.Land.TheVariants.{Full, Lost, Stop, Fail}
use Rattle.xrf_trace.specs.declared.entry.Who.{Who}
use Rattle.xrf_trace.specs.declared.entry.Who.TheVariants as who
use Rattle.xrf_report.specs.Words.{blank}
use Rattle.xrf_report.specs.Acts.{clt_text, act_text}
use Rattle.xrf_report.specs.Entries.{who_word, cut_text, is_without_act, stop_text, made_text, entry_text}
use Rattle.xrf_report.specs.Fits.{Is32, ActFits, EntryFits}
use Rattle.xrf_report.proofs.Parts.{ArePrinted, IsPart, word, no-byte, within, wider, joined, behind-blank, number, value, hex}
use Rattle.xrf_report.proofs.ActParts.{control-part, message-part, unit-part, log-part, keypoint-part, decided-part, ending-part, signal-part, go-part, exit-part, command-part, reply-part}

-- a printable byte is printed
printable : (text : List ℕ) → AllByRecursion (λ (b : ℕ). IsTrue (is_printable b)) text → ArePrinted text
printable [] all = tt
printable (b ∷ bs) all = (leb-true 32 b (and_parts (nat_le 32 b) (nat_le b 126) all.0).0, printable bs all.1)

-- a line of the command list is a part
kept-part : (k : Kept) → IsKept k → IsPart 295 k.text
kept-part k is =
    let whole : length (codes "CLT " ++ kept_text k) ≡ 4 + length (kept_text k) = length-append (codes "CLT ") (kept_text k) in
    let behind : length (kept_text k) ≡ length (k.applid ++ codes " ") + length k.text = length-append (k.applid ++ codes " ") k.text in
    let between : length (k.applid ++ codes " ") ≡ length k.applid + 1 = length-append k.applid (codes " ") in
    let short : length (kept_line k) ≤ 300 = is.short in
    record { printed = printable k.text is.bytes; short = omega arith }

-- so is one of some texts, and no text
own-text : (k : Kept) (kept : List Kept) (own : Bool) (place : ℕ) → IsPart 295 k.text
    → ((place : ℕ) → IsPart 295 (slice_index_or (map (λ (k : Kept). k.text) kept) place []))
    → IsPart 295 (slice_index_or (map (λ (k : Kept). k.text) (if own then k ∷ kept else kept)) place [])
own-text k kept true zero own more = own
own-text k kept true (suc place) own more = more place
own-text k kept false place own more = more place

-- so is each of an applid's texts
texts-part : (applid : List ℕ) (kept : List Kept) (place : ℕ) → AllByRecursion IsKept kept → IsPart 295 (slice_index_or (texts_for applid kept) place [])
texts-part applid [] place all = within 295 refl no-byte
texts-part applid (k ∷ kept) place all =
    own-text k (filter (λ (k : Kept). bytes_eq k.applid applid) kept) (bytes_eq k.applid applid) place (kept-part k all.0) (λ place. texts-part applid kept place all.1)

clt-part : (s : Scen) (x : Who) (number : ℕ) → IsScen s → IsPart 295 (clt_text s x number)
clt-part s who.A number is = texts-part s.settings.applid_a s.clt (number - 1) is.clt
clt-part s who.B number is = texts-part s.settings.applid_b s.clt (number - 1) is.clt
clt-part s who.Env number is = within 295 refl no-byte

-- a word alone, and one with a number behind it
lone : (text : List ℕ) → nat_le (length text) 78 ≡ true → list_all (nat_le 32) text ≡ true → IsPart 310 text
lone text few passed = within 310 refl (within 78 few (word text passed))

numbered : (text : List ℕ) (n : ℕ) → nat_le (length text) 10 ≡ true → list_all (nat_le 32) text ≡ true → Is32 n → IsPart 78 (text ++ decimal n)
numbered text n few passed fits = within 78 refl (joined (within 10 few (word text passed)) (number n fits))

-- how many bytes an act has at most: one whose write may be torn 78
abbrev pub act_most : Act → ℕ
act_most a = elim (is_some (torn_size a)) [ true ↦ 78 | false ↦ 310 ]

-- What is printed of an act is a part.
act-part : (s : Scen) (x : Who) (a : Act) → IsScen s → ActFits a → IsPart (act_most a) (act_text s x a)
act-part s x act.Tick is fits = lone (codes "TICK") refl refl
act-part s x act.StartActive is fits = lone (codes "START ACTIVE") refl refl
act-part s x act.StartStandby is fits = lone (codes "START STANDBY") refl refl
act-part s x act.Abend is fits = lone (codes "ABEND") refl refl
act-part s x (act.Confirm inc) is fits = within 310 refl (numbered (codes "CONFIRM ") inc refl refl fits)
act-part s x (act.Reply go) is fits = within 310 refl (joined (word (codes "REPLY ") refl) (go-part go))
act-part s x (act.Cebt command reply) is fits =
    within 310 refl (joined (joined (joined (word (codes "CEBT ") refl) (command-part command)) (word (codes " = ") refl)) (reply-part reply))
act-part s x (act.Exit said) is fits = within 310 refl (joined (word (codes "EXIT ") refl) (exit-part said))
act-part s x act.Reserve is fits = lone (codes "RESERVE") refl refl
act-part s x act.CtlRead is fits = lone (codes "CTLREAD") refl refl
act-part s x (act.CtlWrite control) is fits = within 310 refl (joined (word (codes "CTLWRITE ") refl) (control-part s.settings.format control fits))
act-part s x act.Release is fits = lone (codes "RELEASE") refl refl
act-part s x (act.Signal1 signal) is fits = within 310 refl (joined (word (codes "SIGNAL1 ") refl) (signal-part signal fits))
act-part s x (act.Signal2 signal) is fits = within 310 refl (joined (word (codes "SIGNAL2 ") refl) (signal-part signal fits))
act-part s x act.Look1 is fits = lone (codes "LOOK1") refl refl
act-part s x act.Look2 is fits = lone (codes "LOOK2") refl refl
act-part s x (act.Decide decided) is fits = within 310 refl (joined (word (codes "DECIDE ") refl) (decided-part decided fits))
act-part s x (act.MsgRead slot) is fits = within 310 refl (numbered (codes "MSGREAD ") slot refl refl fits)
act-part s x (act.MsgClose slot) is fits = numbered (codes "MSGCLOSE ") slot refl refl fits
act-part s x (act.MsgBody slot message) is fits =
    joined (joined (word (codes "MSGBODY ") refl) (number slot fits.0)) (behind-blank (message-part message fits.1))
act-part s x (act.MsgOpen slot message) is fits =
    joined (joined (word (codes "MSGOPEN ") refl) (number slot fits.0)) (behind-blank (message-part message fits.1))
act-part s x (act.LogRead block) is fits = within 310 refl (numbered (codes "LOGREAD ") block refl refl fits)
act-part s x (act.LogLook place) is fits = within 310 refl (numbered (codes "LOGLOOK ") place refl refl fits)
act-part s x (act.LogClose place) is fits = numbered (codes "LOGCLOSE ") place refl refl fits
act-part s x (act.LogBody place rec) is fits =
    within 78 refl (joined (joined (word (codes "LOGBODY ") refl) (number place fits.0)) (behind-blank (log-part rec fits.1)))
act-part s x (act.LogOpen place rec) is fits =
    within 78 refl (joined (joined (word (codes "LOGOPEN ") refl) (number place fits.0)) (behind-blank (log-part rec fits.1)))
act-part s x (act.KpRead slot) is fits = within 310 refl (numbered (codes "KPREAD ") slot refl refl fits)
act-part s x (act.KpClose slot) is fits = numbered (codes "KPCLOSE ") slot refl refl fits
act-part s x (act.KpBody slot keypoint) is fits =
    within 78 refl (joined (joined (word (codes "KPBODY ") refl) (number slot fits.0)) (behind-blank (keypoint-part keypoint fits.1)))
act-part s x (act.KpOpen slot keypoint) is fits =
    within 78 refl (joined (joined (word (codes "KPOPEN ") refl) (number slot fits.0)) (behind-blank (keypoint-part keypoint fits.1)))
act-part s x (act.FileRead k) is fits = within 310 refl (numbered (codes "FILEREAD ") k refl refl fits)
act-part s x (act.FileWrite unit k v) is fits =
    within 78 refl
    (joined (joined (joined (word (codes "FILEWRITE ") refl) (unit-part unit fits.0)) (behind-blank (number k fits.1))) (behind-blank (value v fits.2)))
act-part s x (act.Undo k before) is fits = numbered (codes "UNDO ") k refl refl fits
act-part s x (act.Item k) is fits = within 310 refl (numbered (codes "ITEM ") k refl refl fits)
act-part s x (act.Clt k) is fits = joined (joined (word (codes "CLT ") refl) (number k fits)) (behind-blank (clt-part s x k is))
act-part s x act.Restarted is fits = lone (codes "RESTARTED") refl refl
act-part s x (act.Ended reason) is fits = within 310 refl (joined (word (codes "ENDED ") refl) (ending-part reason fits))
act-part s x act.NoAct is fits = within 310 refl no-byte

-- it has at most 310 bytes, and at most 78 where its write may be torn
act-within : (s : Scen) (x : Who) (a : Act) → IsScen s → ActFits a → IsPart 310 (act_text s x a)
act-within s x a is fits = by (is_some (torn_size a)) (act-part s x a is fits)
  where
    by : (torn : Bool) → IsPart (elim torn [ true ↦ 78 | false ↦ 310 ]) (act_text s x a) → IsPart 310 (act_text s x a)
    by true part = within 310 refl part
    by false part = part

torn-part : (s : Scen) (x : Who) (a : Act) → IsScen s → ActFits a → is_some (torn_size a) ≡ true → IsPart 78 (act_text s x a)
torn-part s x a is fits torn = subst (λ (b : Bool). IsPart (elim b [ true ↦ 78 | false ↦ 310 ]) (act_text s x a)) torn (act-part s x a is fits)

who-part : (x : Who) → IsPart 1 (who_word x)
who-part who.A = word (codes "A") refl
who-part who.B = word (codes "B") refl
who-part who.Env = word (codes "-") refl

-- how the bytes of an entry come: by an act of 310 bytes that lands whole or not at all, or by a write of 78 that is torn
abbrev pub CutFits : Act → Landing → Type 0
CutFits a Nothing = Unit {0}
CutFits a All = Unit {0}
CutFits a (Torn bytes) = (is_some (torn_size a) ≡ true) × (length bytes ≤ 63)

abbrev pub MadeFits : Act → Land → Type 0
MadeFits a Full = Unit {0}
MadeFits a Lost = Unit {0}
MadeFits a (Stop cut) = is_without_act a ≡ false → CutFits a cut
MadeFits a (Fail cut) = CutFits a cut

-- how many bytes an entry has at most behind its incarnation
abbrev pub cut_most : Landing → ℕ
cut_most Nothing = 315
cut_most All = 315
cut_most (Torn bytes) = 210

abbrev pub made_most : Land → ℕ
made_most Full = 310
made_most Lost = 315
made_most (Stop cut) = 5 + cut_most cut
made_most (Fail cut) = 5 + cut_most cut

cut-part : (s : Scen) (x : Who) (a : Act) (cut : Landing) → IsScen s → ActFits a → CutFits a cut → IsPart (cut_most cut) (cut_text s x a cut)
cut-part s x a Nothing is fits lands = joined (act-within s x a is fits) (behind-blank (word (codes "NONE") refl))
cut-part s x a All is fits lands = within 315 refl (joined (act-within s x a is fits) (behind-blank (word (codes "ALL") refl)))
cut-part s x a (Torn bytes) is fits lands = joined (torn-part s x a is fits lands.0) (behind-blank (joined (word (codes "TORN ") refl) (hex 63 bytes lands.1)))

stop-word : (cut : Landing) → IsPart (5 + cut_most cut) (codes "STOP")
stop-word Nothing = within 320 refl (word (codes "STOP") refl)
stop-word All = within 320 refl (word (codes "STOP") refl)
stop-word (Torn bytes) = within 215 refl (word (codes "STOP") refl)

stop-part : (s : Scen) (x : Who) (a : Act) (cut : Landing) → IsScen s → ActFits a → MadeFits a (Stop cut) → IsPart (5 + cut_most cut) (stop_text s x a cut)
stop-part s x a cut is fits lands = by (is_without_act a) lands
  where
    by : (without : Bool) → (without ≡ false → CutFits a cut) → IsPart (5 + cut_most cut) (if without then codes "STOP" else codes "STOP " ++ cut_text s x a cut)
    by true lands = stop-word cut
    by false lands = joined (word (codes "STOP ") refl) (cut-part s x a cut is fits (lands refl))

-- what is printed of an act with what of it landed is a part
made-part : (s : Scen) (x : Who) (a : Act) (l : Land) → IsScen s → ActFits a → MadeFits a l → IsPart (made_most l) (made_text s x a l)
made-part s x a Full is fits lands = act-within s x a is fits
made-part s x a Lost is fits lands = joined (act-within s x a is fits) (word (codes " LOST") refl)
made-part s x a (Stop cut) is fits lands = stop-part s x a cut is fits lands
made-part s x a (Fail cut) is fits lands = joined (word (codes "FAIL ") refl) (cut-part s x a cut is fits lands)

-- what is printed of an entry is a part
pub entry-part : (s : Scen) (e : Entry) → IsScen s → EntryFits e → MadeFits e.act e.land → IsPart (24 + made_most e.land) (entry_text s e)
entry-part s e is fits lands =
    let first : IsPart 23 (decimal e.tick ++ blank (who_word e.who) ++ blank (decimal e.inc)) =
    joined (joined (number e.tick fits.0) (behind-blank (who-part e.who))) (behind-blank (number e.inc fits.1)) in
    let rest : IsPart (made_most e.land + 1) (blank (made_text s e.who e.act e.land)) = behind-blank (made-part s e.who e.act e.land is fits.2 lands) in
    wider (omega arith) (joined first rest)
