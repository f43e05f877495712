-- What is known of a job where an act on a message comes next: an induction over the histories of jobs alone.
use Rattle.std.proofs.Common.{List, None, Option, Some, refl, ◌≡◌, ℕ, ◌∷◌, ◌∙◌, false, true, ap, Bool, not, ◌&&◌, ◌||◌, is_some, [], if◌then◌else◌, subst, sym, ◌%◌, arith, ◌==◌}
use Rattle.xrf_ctl.specs.declared.parts.Cause.{Cause}
use Rattle.xrf_ctl.specs.declared.parts.OwnerState.{OwnerState}
use Rattle.xrf_ctl.specs.declared.parts.OwnerState.TheVariants.{OffAbend}
use Rattle.xrf_ctl.specs.Control.{ControlRecord}
use Rattle.xrf_cavm.specs.Record.{is_owner as names_owner}
use Rattle.xrf_gated.specs.declared.gated.TheConstants.{OPEN}
use Rattle.xrf_exit.specs.declared.ExitAnswer.TheVariants as exit
use Rattle.xrf_msg.specs.declared.messages.Message.{Message}
use Rattle.xrf_msg.specs.Messages.{number_of}
use Rattle.xrf_terms.specs.declared.rows.Row.{Row}
use Rattle.xrf_history.specs.Events.{Event, MessageBodied, MessageClosed, Abended, Commanded, Exited, Replied, Ticked, MessageRead, ActFailed, Given, Reserved, ControlWritten, RestartDeclared, StartedActive, MessageOpened, StartedStandby}
use Rattle.xrf_history.proofs.Inside.{IsPassing, IsInner, IsOff, off-next, quiet-next}
use Rattle.xrf_history.specs.declared.settings.Settings.{Settings}
use Rattle.xrf_history.specs.Sending.{message_due_in, is_end_sent, message_of_catch_up, message_of_change, sent, message_due}
use Rattle.xrf_history.specs.Notices.{epoch}
use Rattle.xrf_history.specs.Holding.{is_restarted, is_let_through, is_granted, is_owner, starts_active, number}
use Rattle.xrf_history.specs.Terminals.{table}
use Rattle.xrf_history.specs.Taking.{gives, is_drained, is_draining}
use Rattle.xrf_history.specs.declared.want.EndWhy.{EndWhy}
use Rattle.xrf_history.specs.Reserving.{SignOnActive, SignOnStandby, leaves, purpose_now, purpose_of_alternate, purpose_of_owner, sign_off_due, start_due, fails_owner, is_on_message, state_by_item}
use Rattle.xrf_history.proofs.Purposes.{is_sign_off}
use Rattle.xrf_history.proofs.SigningOff.{has_reserved_off, Stays}
use Rattle.xrf_history.proofs.Tests.{or_else-some, not-both, or-left}
use Rattle.xrf_history.proofs.Boundary.{Works, IsPlain, Cases, calm-plain, idle-plain, boundary-by}
use Rattle.xrf_history.specs.declared.want.Want.{Want}
use Rattle.xrf_history.specs.Rows.{reading_place}
use Rattle.xrf_history.specs.Next.{after_message_read, gate_of, or_boundary, after_message_close}
use Rattle.xrf_history.proofs.Histories.{Comes, IsHistory, induct}
use Rattle.xrf_history.specs.declared.want.Want.TheVariants as want
use Rattle.xrf_trace.specs.declared.entry.Entry.{Entry}
use Rattle.xrf_trace.proofs.Short.{IsShort}
use Rattle.xrf_trace.proofs.JobSteps.{OfJobs, of_job}
use Rattle.xrf_trace.specs.Scenario.{Scen, settings}
use Rattle.xrf_trace.specs.Jobs.{hist}
use Rattle.xrf_trace.proofs.Paths.{history-at}
use Rattle.xrf_message_law.specs.Due.{Sending, DueAt, ReadsOrSends, Done, SendsSome, Declares, IsDue}

-- an event that the words of the message due do not see
abbrev IsUnseen : Event → Type 0
IsUnseen (MessageClosed k) = Unit {0}
IsUnseen (MessageBodied k message) = Unit {0}
IsUnseen e = IsPassing e

-- such an event leaves the message due
due-in : (p : Settings) (h : List Event) (e : Event) → IsUnseen e → (o : Option ℕ) → message_due_in p o (e ∷ h) ≡ message_due_in p o h
due-in p h Ticked is None = refl
due-in p h Ticked is (Some n) = refl
due-in p h Abended is None = refl
due-in p h Abended is (Some n) = refl
due-in p h (Replied go at) is None = refl
due-in p h (Replied go at) is (Some n) = refl
due-in p h (Commanded command at) is None = refl
due-in p h (Commanded command at) is (Some n) = refl
due-in p h (Exited answer at) is None = refl
due-in p h (Exited answer at) is (Some n) = refl
due-in p h (MessageClosed k) is None = refl
due-in p h (MessageClosed k) is (Some n) = refl
due-in p h (MessageBodied k m) is None = refl
due-in p h (MessageBodied k m) is (Some n) = refl
due-in p h _ is o = absurd is

-- so a writing goes on over them
sending-on : (p : Settings) (h : List Event) (e : Event) (k : ℕ) (m : Message) → IsUnseen e → Sending p h k m → Sending p (e ∷ h) k m
sending-on p h Ticked k m is s =
    record {
      stays = record { owner = s.stays.owner; stays = s.stays.stays };
      drained = s.drained;
      restarted = s.restarted;
      due = due-in p h Ticked tt
          (epoch h) ∙ s.due;
      may = s.may;
      place = s.place;
    }
sending-on p h Abended k m is s =
    record {
      stays = record { owner = s.stays.owner; stays = s.stays.stays };
      drained = s.drained;
      restarted = s.restarted;
      due = due-in p h Abended tt
          (epoch h) ∙ s.due;
      may = s.may;
      place = s.place;
    }
sending-on p h (Replied go at) k m is s =
    record {
      stays = record { owner = s.stays.owner; stays = s.stays.stays };
      drained = s.drained;
      restarted = s.restarted;
      due = due-in p h
          (Replied go at) tt (epoch h) ∙ s.due;
      may = s.may;
      place = s.place;
    }
sending-on p h (Commanded command at) k m is s =
    record {
      stays = record { owner = s.stays.owner; stays = s.stays.stays };
      drained = s.drained;
      restarted = s.restarted;
      due = due-in p h
          (Commanded command at) tt (epoch h) ∙ s.due;
      may = s.may;
      place = s.place;
    }
sending-on p h (Exited answer at) k m is s =
    record {
      stays = record { owner = s.stays.owner; stays = s.stays.stays };
      drained = s.drained;
      restarted = s.restarted;
      due = due-in p h
          (Exited answer at) tt (epoch h) ∙ s.due;
      may = s.may;
      place = s.place;
    }
sending-on p h (MessageClosed j) k m is s =
    record {
      stays = record { owner = s.stays.owner; stays = s.stays.stays };
      drained = s.drained;
      restarted = s.restarted;
      due = due-in p h
          (MessageClosed j) tt (epoch h) ∙ s.due;
      may = s.may;
      place = s.place;
    }
sending-on p h (MessageBodied j b) k m is s =
    record {
      stays = record { owner = s.stays.owner; stays = s.stays.stays };
      drained = s.drained;
      restarted = s.restarted;
      due = due-in p h
          (MessageBodied j b) tt (epoch h) ∙ s.due;
      may = s.may;
      place = s.place;
    }
sending-on p h _ k m is s = absurd is

-- a MSGREAD of a job that is restarted leaves its table, and so the message due
abbrev due_with : Settings → ℕ → List Event → List Row → Option Message
due_with p n h rows = elim (is_end_sent h) [ true ↦ message_of_change p n (sent h) h | false ↦ Some (message_of_catch_up p n (sent h) rows) ]

-- a MSGREAD of a job that is restarted leaves the message due
due-read-in : (p : Settings) (h : List Event) (k : ℕ) (slot : List ℕ) → is_restarted h ≡ true → (o : Option ℕ)
    → message_due_in p o (MessageRead k slot ∷ h) ≡ message_due_in p o h
due-read-in p h k slot restarted None = refl
due-read-in p h k slot restarted (Some n) =
    let same : table p (MessageRead k slot ∷ h) ≡ table p h = rw restarted refl in
    ap (due_with p n h) same

-- a job that has drained stays so
drained-on : (through drained gives_one : Bool) → (through && not drained) ≡ false → (through && not (drained || (through && not gives_one))) ≡ false
drained-on false drained gives_one is = refl
drained-on true true gives_one is = refl
drained-on true false gives_one is = absurd (cc)

-- and the writing that goes on
sending-read : (p : Settings) (h : List Event) (k j : ℕ) (slot : List ℕ) (m : Message) → Sending p h k m → Sending p (MessageRead j slot ∷ h) k m
sending-read p h k j slot m s = record {
  stays = record { owner = s.stays.owner; stays = s.stays.stays };
  drained = drained-on (is_let_through h) (is_drained h) (gives slot h) s.drained;
  restarted = s.restarted;
  due = due-read-in p h j slot s.restarted (epoch h) ∙ s.due;
  may = s.may;
  place = s.place;
}

-- a RESERVE for a sign-off has a sign-off due
off-now : (h : List Event) → is_sign_off (purpose_now h) ≡ true → is_some (sign_off_due h) ≡ true
off-now h is = granted (is_granted h) is
  where
    of_owner : (o : Option OwnerState) → is_sign_off (purpose_of_owner o) ≡ true → is_some o ≡ true
    of_owner (Some state) is = refl
    of_owner None is = absurd (cc)

    of_alternate : (w : Option EndWhy) (c : Option Cause) → is_sign_off (purpose_of_alternate w c) ≡ true → is_some (sign_off_due h) ≡ true
    of_alternate (Some w) c is = absurd (cc)
    of_alternate None (Some c) is = absurd (cc)
    of_alternate None None is = absurd (cc)

    owner : (b : Bool)
        → is_sign_off (elim b [ true ↦ purpose_of_owner (sign_off_due h) | false ↦ purpose_of_alternate (leaves h) (start_due h) ]) ≡ true
        → is_some (sign_off_due h) ≡ true
    owner true is = of_owner (sign_off_due h) is
    owner false is = of_alternate (leaves h) (start_due h) is

    starting : (b : Bool) → is_sign_off (elim b [ true ↦ SignOnActive | false ↦ SignOnStandby ]) ≡ true → is_some (sign_off_due h) ≡ true
    starting true is = absurd (cc)
    starting false is = absurd (cc)

    granted : (b : Bool)
        → is_sign_off (elim b [
          | false ↦ elim (starts_active h) [ true ↦ SignOnActive | false ↦ SignOnStandby ]
          | true ↦ elim (is_owner h)
              [ true ↦ purpose_of_owner (sign_off_due h) | false ↦ purpose_of_alternate (leaves h) (start_due h) ]
        ]) ≡ true
        → is_some (sign_off_due h) ≡ true
    granted false is = starting (starts_active h) is
    granted true is = owner (is_owner h) is

-- so has whatever comes after it
off-reserved : (h : List Event) → (has_reserved_off h ≡ true → is_some (sign_off_due h) ≡ true) → (b : Bool) → has_reserved_off h ≡ b
    → (b || is_sign_off (purpose_now h)) ≡ true
    → is_some (sign_off_due h) ≡ true
off-reserved h before true was either = before was
off-reserved h before false was either = off-now h either

-- a job that has reserved for its sign-off has one due
off-due : (h : List Event) → has_reserved_off h ≡ true → is_some (sign_off_due h) ≡ true
off-due [] is = absurd (cc)
off-due (Reserved ∷ h) is = off-reserved h (off-due h) (has_reserved_off h) refl is
off-due (Abended ∷ h) is = or_else-some (sign_off_due h) (Some OffAbend) (off-due h is)
off-due (Exited exit.Abend at ∷ h) is = or_else-some (sign_off_due h) (Some OffAbend) (off-due h is)
off-due (Given item ∷ h) is = or_else-some (sign_off_due h) (state_by_item item) (off-due h is)
off-due (ActFailed tried at ∷ h) is = or_else-some (sign_off_due h) (if fails_owner (is_on_message tried) h then Some OffAbend else None) (off-due h is)
off-due (_ ∷ h) is = off-due h is

-- so where none is due it stays
stays-if : (h : List Event) → sign_off_due h ≡ None → has_reserved_off h ≡ false
stays-if h none = by (has_reserved_off h) refl
  where
    by : (b : Bool) → has_reserved_off h ≡ b → b ≡ false
    by false is = refl
    by true is =
        let there : is_some (sign_off_due h) ≡ true = off-due h is in let gone : is_some (sign_off_due h) ≡ false = ap
        (λ (o : Option OwnerState). is_some o) none in cc

-- an owner at work has not reserved for its sign-off
works-stay : (h : List Event) → Works h → Stays h
works-stay h works = record { owner = works.owner; stays = stays-if h works.no_sign_off }

-- what is due at a boundary
due-calm : (p : Settings) (h : List Event) (w : Want) → IsPlain w → DueAt p h w
due-calm p h (want.MsgRead k) calm = absurd calm
due-calm p h (want.MsgClose k) calm = absurd calm
due-calm p h (want.MsgBody k m) calm = absurd calm
due-calm p h (want.MsgOpen k m) calm = absurd calm
due-calm p h want.Item calm = absurd calm
due-calm p h want.Restarted calm = absurd calm
due-calm p h _ calm = tt

-- a job that is not restarted reads for a message
reads-due : (p : Settings) (h : List Event) → is_restarted h ≡ false → ReadsOrSends p h (reading_place p h) (is_restarted h)
reads-due p h not_yet = subst (ReadsOrSends p h (reading_place p h)) (sym not_yet) (record { place = refl })

-- a job that is not restarted, as a test
unless-restarted : (h : List Event) → (is_restarted h ≡ true → ⊥) → is_restarted h ≡ false
unless-restarted h none = by (is_restarted h) refl
  where
    by : (b : Bool) → is_restarted h ≡ b → b ≡ false
    by false is = refl
    by true is = absurd (none is)

-- what is known at a boundary, row by row
due-cases : (p : Settings) (h : List Event) → Done h → Cases p h (DueAt p h)
due-cases p h done = record {
  idle = λ w idle. due-calm p h w (idle-plain w idle);
  calm = λ w calm works. due-calm p h w (calm-plain w calm);
  signals = λ granted works. tt;
  reads = λ alternate due. reads-due p h (unless-restarted h (λ is. not-both (is_owner h) (done.owner is) alternate));
  drains = λ works draining. reads-due p h (unless-restarted h (λ is. not-both (is_draining h) draining (done.drained is)));
  restarts = λ works drained not_yet. record { stays = works-stay h works; drained = drained; not_yet = not_yet; no_sign_off = works.no_sign_off };
  sends = λ works drained restarted m due may.
      let sending : Sending p h (number_of m % p.limits.ring) m =
      record { stays = works-stay h works; drained = drained; restarted = restarted; due = due; may = may; place = refl } in
      let some : SendsSome p h (number_of m % p.limits.ring) = record { message = m; sending = sending } in
      subst (ReadsOrSends p h (number_of m % p.limits.ring)) (sym restarted) some;
  works = λ works drained restarted none. restarted;
}

-- what is due inside a sequence stays over an event that may come there
some-on : (p : Settings) (h : List Event) (e : Event) (k : ℕ) → IsUnseen e → SendsSome p h k → SendsSome p (e ∷ h) k
some-on p h e k is some = record { message = some.message; sending = sending-on p h e k some.message is some.sending }

-- a MSGREAD that is due stays due
reads-with : (p : Settings) (h : List Event) (e : Event) (k : ℕ) (b : Bool) → IsUnseen e → reading_place p (e ∷ h) ≡ reading_place p h
    → ReadsOrSends p h k b → ReadsOrSends p (e ∷ h) k b
reads-with p h e k true is same due = some-on p h e k is due
reads-with p h e k false is same due = record { place = due.place ∙ sym same }

-- so does that of a job that sends
reads-on : (p : Settings) (h : List Event) (e : Event) (k : ℕ) → IsPassing e → ReadsOrSends p h k (is_restarted h)
    → ReadsOrSends p (e ∷ h) k (is_restarted (e ∷ h))
reads-on p h Ticked k is due = reads-with p h Ticked k (is_restarted h) tt refl due
reads-on p h Abended k is due = reads-with p h Abended k (is_restarted h) tt refl due
reads-on p h (Replied go at) k is due = reads-with p h (Replied go at) k (is_restarted h) tt refl due
reads-on p h (Commanded command at) k is due = reads-with p h (Commanded command at) k (is_restarted h) tt refl due
reads-on p h (Exited answer at) k is due = reads-with p h (Exited answer at) k (is_restarted h) tt refl due
reads-on p h _ k is due = absurd is

-- an event that may come inside a sequence leaves the message due
passing-unseen : (e : Event) → IsPassing e → IsUnseen e
passing-unseen (MessageClosed k) is = tt
passing-unseen (MessageBodied k m) is = tt
passing-unseen _ is = is

-- and all that is known inside a sequence
due-on : (p : Settings) (h : List Event) (e : Event) (w : Want) → IsPassing e → IsInner w → DueAt p h w → DueAt p (e ∷ h) w
due-on p h e (want.MsgRead k) is inner due = reads-on p h e k is due
due-on p h e (want.MsgClose k) is inner due = some-on p h e k (passing-unseen e is) due
due-on p h e (want.MsgBody k m) is inner due = sending-on p h e k m (passing-unseen e is) due
due-on p h e (want.MsgOpen k m) is inner due = sending-on p h e k m (passing-unseen e is) due
due-on p h e want.Restarted is inner due = absurd inner
due-on p h e want.Item is inner due = absurd inner
due-on p h e _ is inner due = tt

-- a CTLWRITE of an owner leaves it drained
still-drained : (h : List Event) (written : ControlRecord) → is_owner h ≡ true → is_draining h ≡ false → is_draining (ControlWritten written ∷ h) ≡ false
still-drained h written owner drained = grind (arith, owner, drained)

-- so does a failed act
failed-drained : (h : List Event) (tried : Want) (at : ℕ) → is_draining h ≡ false → is_draining (ActFailed tried at ∷ h) ≡ false
failed-drained h (want.MsgRead k) at drained = fail (is_let_through h) (is_drained h) drained
  where
    fail : (through drained : Bool) → (through && not drained) ≡ false → (through && not (drained || through)) ≡ false
    fail false drained is = refl
    fail true true is = refl
    fail true false is = absurd (cc)
failed-drained h _ at drained = drained

-- RESTARTED
abbrev is_declared : Event → Bool
is_declared RestartDeclared = true
is_declared _ = false

-- an event that comes keeps a restarted job an owner that is drained
done-on : (h : List Event) (e : Event) → (is_declared e ≡ true → Declares h) → Done h → Done (e ∷ h)
done-on h RestartDeclared declared done =
    let d = declared refl in record { owner = λ _. d.stays.owner; drained = λ _. d.drained }
done-on h (ControlWritten written) declared done = record {
  owner = λ is. or-left (is_owner h) (names_owner written (number (ControlWritten written ∷ h))) (done.owner is);
  drained = λ is. still-drained h written (done.owner is) (done.drained is);
}
done-on h (MessageRead k slot) declared done = record {
  owner = done.owner;
  drained = λ is. drained-on (is_let_through h) (is_drained h) (gives slot h) (done.drained is);
}
done-on h (ActFailed tried at) declared done = record { owner = done.owner; drained = λ is. failed-drained h tried at (done.drained is) }
done-on h StartedActive declared done = record { owner = done.owner; drained = λ is. started-drained h (done.owner is) (done.drained is) }
  where
    started-drained : (g : List Event) → is_owner g ≡ true → is_draining g ≡ false → is_draining (StartedActive ∷ g) ≡ false
    started-drained g owner drained = grind (arith, owner, drained)
done-on h _ declared done = record { owner = done.owner; drained = done.drained }

-- after an event that is not on messages
off-due_next : (p : Settings) (h : List Event) (e : Event) → IsOff e → (is_declared e ≡ true → Declares h) → IsDue p h → IsDue p (e ∷ h)
off-due_next p h e off declared before =
    let done = done-on h e declared before.done in
    record {
      done = done;
      due = off-next (DueAt p (e ∷ h)) p h e off (λ passing w is inner. due-on p h e w passing inner (subst (DueAt p h) is before.due))
          (due-calm p (e ∷ h)) (due-cases p (e ∷ h) done);
    }

-- after a MSGREAD: the CLOSE or the BODY of the message at hand, or a boundary
due-read : (p : Settings) (h : List Event) (k : ℕ) (slot : List ℕ) → Done h → ReadsOrSends p h k (is_restarted h) → IsDue p (MessageRead k slot ∷ h)
due-read p h k slot was before = record { done = done; due = by (is_restarted h) before }
  where
    later : List Event
    later = MessageRead k slot ∷ h

    done : Done later
    done = done-on h (MessageRead k slot) (λ same. absurd (cc)) was

    gate : (m : Message) → Sending p h k m → (b : Bool) → DueAt p later (elim b [ true ↦ want.MsgClose k | false ↦ want.MsgBody k m ])
    gate m s true = record { message = m; sending = sending-read p h k k slot m s }
    gate m s false = sending-read p h k k slot m s

    sends : (o : Option Message) → (some : SendsSome p h k) → Some some.message ≡ o → DueAt p later (or_boundary p later (after_message_read k slot o))
    sends None some same = absurd (cc)
    sends (Some m) some same = let one : some.message ≡ m = cc in gate m (subst (Sending p h k) one some.sending) (gate_of slot == OPEN)

    by : (b : Bool) → ReadsOrSends p h k b → DueAt p later (or_boundary p later (after_message_read k slot (elim b [ true ↦ message_due p h | false ↦ None ])))
    by true some = sends (message_due p h) some (sym some.sending.due)
    by false reading = boundary-by (DueAt p later) p later (due-cases p later done)

-- after a CLOSE the BODY, and after a BODY the OPEN
due-closed : (p : Settings) (h : List Event) (k : ℕ) → Done h → SendsSome p h k → IsDue p (MessageClosed k ∷ h)
due-closed p h k was some = record { done = done-on h (MessageClosed k) (λ same. absurd (cc)) was; due = by (is_restarted h) some.sending.restarted }
  where
    later : List Event
    later = MessageClosed k ∷ h

    sends : (o : Option Message) → Some some.message ≡ o → DueAt p later (or_boundary p later (after_message_close k o))
    sends None same = absurd (cc)
    sends (Some m) same = let one : some.message ≡ m = cc in sending-on p h (MessageClosed k) k m tt (subst (Sending p h k) one some.sending)

    by : (b : Bool) → b ≡ true → DueAt p later (or_boundary p later (after_message_close k (elim b [ true ↦ message_due p h | false ↦ None ])))
    by true is = sends (message_due p h) (sym some.sending.due)
    by false is = absurd (cc)

-- after a BODY the OPEN
due-bodied : (p : Settings) (h : List Event) (k : ℕ) (m : Message) → Done h → Sending p h k m → IsDue p (MessageBodied k m ∷ h)
due-bodied p h k m was s = record { done = done-on h (MessageBodied k m) (λ same. absurd (cc)) was; due = sending-on p h (MessageBodied k m) k m tt s }

-- after an OPEN the boundary
open-due : (p : Settings) (h : List Event) (k : ℕ) (m : Message) → Done h → IsDue p (MessageOpened k m ∷ h)
open-due p h k m was =
    let done = done-on h (MessageOpened k m) (λ same. absurd (cc)) was in
    record {
      done = done;
      due = quiet-next (DueAt p (MessageOpened k m ∷ h)) p h (MessageOpened k m) tt (λ w calm. due-calm p (MessageOpened k m ∷ h) w
          (calm-plain w calm)) (due-cases p (MessageOpened k m ∷ h) done);
    }

-- after a failed act the boundary
failed-due : (p : Settings) (h : List Event) (w : Want) (at : ℕ) → IsDue p h → IsDue p (ActFailed w at ∷ h)
failed-due p h w at before =
    let done = done-on h (ActFailed w at) (λ same. absurd (cc)) before.done in
    record {
      done = done;
      due = quiet-next (DueAt p (ActFailed w at ∷ h)) p h (ActFailed w at) tt (λ v calm. due-calm p (ActFailed w at ∷ h) v
          (calm-plain v calm)) (due-cases p (ActFailed w at ∷ h) done);
    }

-- an event that comes
due-step : (p : Settings) (h : List Event) (e : Event) → IsHistory p h → Comes p h e → IsDue p h → IsDue p (e ∷ h)
due-step p h StartedActive is comes before = absurd comes
due-step p h StartedStandby is comes before = absurd comes
due-step p h (MessageRead k slot) is comes before = due-read p h k slot before.done (subst (DueAt p h) comes before.due)
due-step p h (MessageClosed k) is comes before = due-closed p h k before.done (subst (DueAt p h) comes before.due)
due-step p h (MessageBodied k m) is comes before = due-bodied p h k m before.done (subst (DueAt p h) comes before.due)
due-step p h (MessageOpened k m) is comes before = open-due p h k m before.done
due-step p h (ActFailed w at) is comes before = failed-due p h w at before
due-step p h RestartDeclared is comes before = off-due_next p h RestartDeclared tt (λ declared. subst (DueAt p h) comes before.due) before
due-step p h e is comes before = off-due_next p h e tt (λ declared. absurd (cc)) before

-- **of every history**
pub due-at : (p : Settings) (h : List Event) → IsHistory p h → IsDue p h
due-at p h is =
    induct IsDue (λ p. record { done = record { owner = λ r. absurd (cc); drained = λ r. absurd (cc) }; due = tt })
    (λ p. record { done = record { owner = λ r. absurd (cc); drained = λ r. absurd (cc) }; due = tt }) due-step p h is

-- in every run
pub are_due : (s : Scen) (t : List Entry) → IsShort s t → OfJobs s t (λ x h. IsDue (settings s x) h)
are_due s t is x = of_job (λ y h. IsDue (settings s y) h) x (hist s t x) (λ h there. due-at (settings s x) h (history-at s t x h is.run there))
