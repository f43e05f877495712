-- The job at a site, and what it knows: its history, each act with what it was handed.
use Rattle.std.specs.Prelude.{ℕ, ◌%◌, ◌==◌, Bool, true, false, ◌&&◌, ◌||◌, is_some, List, [], ◌∷◌, Option, Some, None}
use Rattle.std.specs.Option.{option_map, option_map_or}
use Rattle.xrf_base.specs.declared.items.Item.{Item}
use Rattle.xrf_base.specs.declared.site.Site.{Site}
use Rattle.xrf_base.specs.declared.site.Site.TheVariants as site
use Rattle.xrf_ctl.specs.Control.{ControlRecord}
use Rattle.xrf_cavm.specs.declared.known.Known.{Known}
use Rattle.xrf_cavm.specs.Record.{inc_of_owner, inc_of_alt}
use Rattle.xrf_gated.specs.Slots.{bytes_of}
use Rattle.xrf_history.specs.Events.{Event, StartedActive, StartedStandby, Ticked, Abended, Replied, Commanded, Exited, Reserved, ControlRead, ControlWritten, Released, Signalled1, Signalled2, Looked1, Looked2, DecisionMade, MessageRead, MessageClosed, MessageBodied, MessageOpened, FirstBlockRead, BlockRead, LogLooked, LogClosed, LogBodied, LogOpened, KeyLooked, KeyClosed, KeyBodied, KeyOpened, RecordRead, RecordWritten, RecordUndone, Given, LineIssued, RestartDeclared, EndedAs, ActFailed}
use Rattle.xrf_history.specs.Holding.{number, is_granted}
use Rattle.xrf_history.specs.Looking.{record_seen}
use Rattle.xrf_history.specs.Restarting.{has_read_block}
use Rattle.xrf_history.specs.declared.want.Want.{Want}
use Rattle.xrf_history.specs.declared.want.Want.TheVariants as want
use Rattle.xrf_trace.specs.declared.entry.Entry.{Entry}
use Rattle.xrf_trace.specs.declared.entry.Act.{Act}
use Rattle.xrf_trace.specs.declared.entry.Act.TheVariants as act
use Rattle.xrf_trace.specs.declared.entry.Land.{Land}
use Rattle.xrf_trace.specs.declared.entry.Land.TheVariants as land
use Rattle.xrf_trace.specs.Scenario.{Scen, item_at, other}
use Rattle.xrf_trace.specs.Words.{is_of, confirmed}
use Rattle.xrf_trace.specs.Devices.{control, sector1, sector2, message_slot, log_slot, key_slot, image, log_block, key_slots}

-- whether the owner and the alternate of a record are confirmed
abbrev pub known_of : List Entry → ControlRecord → Known
known_of t r = record {
  owner = is_some r.owner && confirmed t (inc_of_owner r.owner);
  alt = is_some r.alt && confirmed t (inc_of_alt r.alt);
}

-- the first LOGREAD of a job is handed both keypoint slots too
abbrev pub block_event : Scen → List Entry → ℕ → Bool → Event
block_event s t b true = BlockRead (log_block s t b)
block_event s t b false = FirstBlockRead (log_block s t b) (key_slots t)

abbrev pub item_event : Option Item → Event
item_event (Some item) = Given item
item_event None = Ticked

-- An act that is made in full at a tick, with what it is handed: by the trace before it, at a site whose job
-- has this history.
abbrev pub handed : Scen → List Entry → Site → (at : ℕ) → List Event → Act → Event
handed s t x at h act.Abend = Abended
handed s t x at h (act.Reply go) = Replied go at
handed s t x at h (act.Cebt command reply) = Commanded command at
handed s t x at h (act.Exit answer) = Exited answer at
handed s t x at h act.Reserve = Reserved
handed s t x at h act.CtlRead = ControlRead (control t) (known_of t (control t))
handed s t x at h (act.CtlWrite written) = ControlWritten written
handed s t x at h act.Release = Released
handed s t x at h (act.Signal1 signal) = Signalled1 signal
handed s t x at h (act.Signal2 signal) = Signalled2 signal
handed s t x at h act.Look1 = Looked1 (control t) (sector1 t (other x))
handed s t x at h act.Look2 = Looked2 (sector2 t (other x)) at
handed s t x at h (act.Decide decision) = DecisionMade (known_of t (record_seen h)) at decision
handed s t x at h (act.MsgRead k) = MessageRead k (bytes_of (message_slot t k))
handed s t x at h (act.MsgClose k) = MessageClosed k
handed s t x at h (act.MsgBody k message) = MessageBodied k message
handed s t x at h (act.MsgOpen k message) = MessageOpened k message
handed s t x at h (act.LogRead b) = block_event s t b (has_read_block h)
handed s t x at h (act.LogLook p) = LogLooked p (log_slot s t (p % s.settings.log)).gate
handed s t x at h (act.LogClose p) = LogClosed p
handed s t x at h (act.LogBody p rec) = LogBodied p rec
handed s t x at h (act.LogOpen p rec) = LogOpened p rec
handed s t x at h (act.KpRead k) = KeyLooked k (key_slot t k).gate
handed s t x at h (act.KpClose k) = KeyClosed k
handed s t x at h (act.KpBody k keypoint) = KeyBodied k keypoint
handed s t x at h (act.KpOpen k keypoint) = KeyOpened k keypoint
handed s t x at h (act.FileRead k) = RecordRead k (image s t k)
handed s t x at h (act.FileWrite unit k value) = RecordWritten unit k value
handed s t x at h (act.Undo k before) = RecordUndone k before
handed s t x at h (act.Item k) = item_event (item_at s x k)
handed s t x at h (act.Clt k) = LineIssued k
handed s t x at h act.Restarted = RestartDeclared
handed s t x at h (act.Ended reason) = EndedAs reason
handed s t x at h _ = Ticked

-- the want of an act that may fail
abbrev pub tried : Act → Want
tried (act.MsgRead k) = want.MsgRead k
tried (act.MsgClose k) = want.MsgClose k
tried (act.MsgBody k message) = want.MsgBody k message
tried (act.MsgOpen k message) = want.MsgOpen k message
tried (act.LogRead b) = want.LogRead b
tried (act.LogLook p) = want.LogLook p
tried (act.LogClose p) = want.LogClose p
tried (act.LogBody p rec) = want.LogBody p rec
tried (act.LogOpen p rec) = want.LogOpen p rec
tried (act.KpRead k) = want.KpRead k
tried (act.KpClose k) = want.KpClose k
tried (act.KpBody k keypoint) = want.KpBody k keypoint
tried (act.KpOpen k keypoint) = want.KpOpen k keypoint
tried (act.FileRead k) = want.FileRead k
tried (act.FileWrite unit k value) = want.FileWrite unit k value
tried (act.Undo k before) = want.Undo k before
tried _ = want.Nothing

-- The job at a site: its history from its last START on, and none where an ENDED or a stop follows that START.
-- A failed act, which is the next one, tells the job that it failed. A TICK reaches the job of each site.
abbrev pub after_act : Scen → List Entry → Site → (at : ℕ) → Act → Option (List Event) → Option (List Event)
after_act s t x at act.StartActive job = Some (StartedActive ∷ [])
after_act s t x at act.StartStandby job = Some (StartedStandby ∷ [])
after_act s t x at (act.Ended reason) job = None
after_act s t x at a job = option_map (λ h. handed s t x at h a ∷ h) job

abbrev pub after_own : Scen → List Entry → Site → (at : ℕ) → Act → Land → Option (List Event) → Option (List Event)
after_own s t x at a (land.Stop landing) job = None
after_own s t x at a (land.Fail landing) job = option_map (λ h. ActFailed (tried a) at ∷ h) job
after_own s t x at a land.Full job = after_act s t x at a job
after_own s t x at a land.Lost job = after_act s t x at a job

abbrev pub after_other : Act → Option (List Event) → Option (List Event)
after_other act.Tick job = option_map (λ h. Ticked ∷ h) job
after_other _ job = job

abbrev pub hist : Scen → List Entry → Site → Option (List Event)
hist s [] x = None
hist s (e ∷ t) x = elim (is_of e.who x) [ true ↦ after_own s t x e.tick e.act e.land (hist s t x) | false ↦ after_other e.act (hist s t x) ]

-- a job holds this incarnation
abbrev pub holds : ℕ → Option (List Event) → Bool
holds n job = option_map_or (λ h. is_granted h && number h == n) job false

abbrev pub live : Scen → List Entry → ℕ → Bool
live s t n = holds n (hist s t site.A) || holds n (hist s t site.B)
