-- What a job that leaves has before it: under the reserve, and at its end, an alternate that ends is leaving.
use Rattle.std.proofs.Common.{◌≡◌, ℕ, Bool, true, false, ◌⊎◌, inl, inr, ◌||◌, List, ◌∷◌, Option, Some, None, is_some, is_none, refl, ap, ◌∙◌, sym, arith}
use Rattle.std.proofs.lemmas.Grind.{common_steps}
use Rattle.xrf_ctl.specs.declared.parts.Cause.{Cause}
use Rattle.xrf_ctl.specs.Control.{ControlRecord}
use Rattle.xrf_cavm.specs.declared.known.Known.{Known}
use Rattle.xrf_cavm.specs.declared.grants.Grant.{Grant}
use Rattle.xrf_cavm.specs.Grants.{grant_active, grant_standby}
use Rattle.xrf_cavm.specs.Writes.{start_takeover}
use Rattle.xrf_cavm.specs.Record.{is_owner as names_owner}
use Rattle.xrf_history.specs.declared.settings.Settings.{Settings}
use Rattle.xrf_history.specs.declared.want.EndWhy.{EndWhy}
use Rattle.xrf_history.specs.declared.want.Want.{Want}
use Rattle.xrf_history.specs.Events.{Event, ActFailed, ControlRead, ControlWritten, DecisionMade, Released, Reserved, StartedActive, StartedStandby}
use Rattle.xrf_history.specs.Holding.{number, is_granted, is_owner}
use Rattle.xrf_history.specs.Notices.{epoch_number}
use Rattle.xrf_history.specs.Reserving.{Purpose, SignOnActive, SignOnStandby, SignOff, DropAlternate, Leave, StartTakeover, GoThrough, purpose, purpose_now, leaves, record_read, known_read, granted, end_of_grant, record_by_purpose, end_by_purpose, abandons, has_abandoned, is_leaving}
use Rattle.xrf_history.specs.Next.{end_for, end_next, after_release, record_for}
use Rattle.xrf_history.proofs.Histories.{Comes, IsHistory, induct}
use Rattle.xrf_history.proofs.News.{or-none}
use Rattle.xrf_history.proofs.Phases.{Phase, phase, HasRead, HasWritten, Over, Held, Outside, Fresh, released, before_write, may_release, may_reserve, is_work}
use Rattle.xrf_history.proofs.PhaseLaws.{reserve-phase, read-phase, write-phase, work-phase, fails-work, releases-phase}
use Rattle.xrf_history.proofs.Purposes.{Suits, suited}
use Rattle.xrf_history.proofs.Tests.{or-left, or-right}
use Rattle.xrf_history.proofs.Writes.{number_after}
use Rattle.xrf_owner_law.proofs.LeavingLaw.{is_leave}

-- Of a job that reserved to leave, it leaves. One that read that its start may not be made has abandoned it. With its
-- record written an alternate goes on, or leaves; and where it ends it leaves. Who has abandoned its start has its end before it.
pub record Leaving (f : Phase) (q : Purpose) (grants owner left abandoned not_made : Bool) (ends : Option EndWhy) : Type 0 where
  pub leave : before_write f ≡ true → is_leave q ≡ true → left ≡ true
  pub read : f ≡ HasRead → not_made ≡ true → abandoned ≡ true
  pub written : f ≡ HasWritten → owner ≡ false → (ends ≡ None) ⊎ ((left || abandoned) ≡ true)
  pub over : f ≡ Over → grants ≡ true → owner ≡ false → (left || abandoned) ≡ true
  pub ending : abandoned ≡ true → (f ≡ Over) ⊎ ((may_release f ≡ true) × (is_some ends ≡ true))

-- of a history
abbrev pub IsLeaving : Settings → List Event → Type 0
IsLeaving p h =
    Leaving (phase p h) (purpose h) (is_granted h) (is_owner h) (is_some (leaves h)) (has_abandoned h) (abandons (purpose h) (number h) (record_read h)) (end_for p h)

-- a RESERVE to leave is of one that leaves
leave-now : (h : List Event) → is_leave (purpose_now h) ≡ true → is_some (leaves h) ≡ true
leave-now h leave = grind (arith, common_steps)

-- a start that may not be made ends
abandons-ends : (p : Settings) (q : Purpose) (me : ℕ) (c : ControlRecord) (known : Known) → abandons q me c ≡ true → is_some (end_by_purpose p q me c known) ≡ true
abandons-ends p q me c known is = grind (arith, common_steps)

-- who is granted does not end
grant-stays : (g : Grant) (w : ControlRecord) → granted g ≡ Some w → end_of_grant g ≡ None
grant-stays g w is = grind (arith, common_steps)

-- a start that may be made does not end, and one that may not is abandoned
start-either : (p : Settings) (why : Cause) (me : ℕ) (c : ControlRecord) (known : Known)
    → (end_by_purpose p (StartTakeover why) me c known ≡ None) ⊎ (abandons (StartTakeover why) me c ≡ true)
start-either p why me c known = by (is_none (start_takeover c me why)) refl
  where
    by : (b : Bool) → is_none (start_takeover c me why) ≡ b
        → (end_by_purpose p (StartTakeover why) me c known ≡ None) ⊎ (abandons (StartTakeover why) me c ≡ true)
    by true is = inr is
    by false is = inl (grind (arith, common_steps))

-- How an alternate that has read ends is the same once it has written.
end-written : (p : Settings) (q : Purpose) (me : ℕ) (c w : ControlRecord) (known : Known) (grants owner : Bool) → Suits q grants owner
    → end_by_purpose p q (number_after grants me w) c known ≡ end_by_purpose p q me c known
end-written p (StartTakeover why) me c w known grants owner suits = ap (λ (b : Bool). end_by_purpose p (StartTakeover why) (number_after b me w) c known) suits.0
end-written p SignOnActive me c w known grants owner suits = refl
end-written p SignOnStandby me c w known grants owner suits = refl
end-written p (SignOff state) me c w known grants owner suits = refl
end-written p DropAlternate me c w known grants owner suits = refl
end-written p (Leave reason) me c w known grants owner suits = refl
end-written p GoThrough me c w known grants owner suits = refl

-- An alternate that has read does not end, or leaves; so does one that signs on and is granted.
read-ends : (p : Settings) (q : Purpose) (me epoch : ℕ) (c : ControlRecord) (known : Known) (grants owner left abandoned : Bool) → Suits q grants owner
    → owner ≡ false → (grants ≡ true) ⊎ (is_some (record_by_purpose p q me epoch c known) ≡ true) → (is_leave q ≡ true → left ≡ true)
    → (abandons q me c ≡ true → abandoned ≡ true) → (end_by_purpose p q me c known ≡ None) ⊎ ((left || abandoned) ≡ true)
read-ends p SignOnActive me epoch c known grants owner left abandoned suits no_owner some leave read = by some
  where
    granted-some : (g : Grant) → is_some (granted g) ≡ true → end_of_grant g ≡ None
    granted-some g is = grind (arith, common_steps)

    by : (grants ≡ true) ⊎ (is_some (granted (grant_active c p.site known p.level)) ≡ true)
        → (end_of_grant (grant_active c p.site known p.level) ≡ None) ⊎ ((left || abandoned) ≡ true)
    by (inl has) = absurd (cc (sym suits ∙ has))
    by (inr is) = inl (granted-some (grant_active c p.site known p.level) is)
read-ends p SignOnStandby me epoch c known grants owner left abandoned suits no_owner some leave read = by some
  where
    granted-some : (g : Grant) → is_some (granted g) ≡ true → end_of_grant g ≡ None
    granted-some g is = grind (arith, common_steps)

    by : (grants ≡ true) ⊎ (is_some (granted (grant_standby c p.site known p.level)) ≡ true)
        → (end_of_grant (grant_standby c p.site known p.level) ≡ None) ⊎ ((left || abandoned) ≡ true)
    by (inl has) = absurd (cc (sym suits ∙ has))
    by (inr is) = inl (granted-some (grant_standby c p.site known p.level) is)
read-ends p (SignOff state) me epoch c known grants owner left abandoned suits no_owner some leave read = absurd (cc (sym suits ∙ no_owner))
read-ends p DropAlternate me epoch c known grants owner left abandoned suits no_owner some leave read = absurd (cc (sym suits ∙ no_owner))
read-ends p (Leave reason) me epoch c known grants owner left abandoned suits no_owner some leave read = inr (or-left left abandoned (leave refl))
read-ends p (StartTakeover why) me epoch c known grants owner left abandoned suits no_owner some leave read = by (start-either p why me c known)
  where
    by : (end_by_purpose p (StartTakeover why) me c known ≡ None) ⊎ (abandons (StartTakeover why) me c ≡ true)
        → (end_by_purpose p (StartTakeover why) me c known ≡ None) ⊎ ((left || abandoned) ≡ true)
    by (inl goes) = inl goes
    by (inr is) = inr (or-right left abandoned (read is))
read-ends p GoThrough me epoch c known grants owner left abandoned suits no_owner some leave read = inl refl

-- the phases that are none of others
not-reserve : (f : Phase) (ends : Option EndWhy) → may_reserve f ≡ true → (f ≡ Over) ⊎ ((may_release f ≡ true) × (is_some ends ≡ true)) → ⊥
not-reserve f ends may (inl over) = absurd (cc (sym may ∙ ap may_reserve over))
not-reserve Fresh ends may (inr releases) = absurd (cc (releases.0))
not-reserve Outside ends may (inr releases) = absurd (cc (releases.0))
not-reserve _ ends may (inr releases) = absurd (cc)

-- one that has read does not only hold the reserve
not-held : (f : Phase) (ends : Option EndWhy) → f ≡ Held → (f ≡ Over) ⊎ ((may_release f ≡ true) × (is_some ends ≡ true)) → ⊥
not-held f ends held (inl over) = absurd (cc (sym held ∙ over))
not-held f ends held (inr releases) = absurd (cc (sym (ap may_release held) ∙ releases.0))

-- one that may release is not over
not-over : (f : Phase) → may_release f ≡ true → f ≡ Over → ⊥
not-over f may over = absurd (cc (sym (ap may_release over) ∙ may))

-- after a RELEASE a job is over or outside
released-over : (o : Option Want) → released o ≡ Over → is_some o ≡ true
released-over None is = absurd (cc)
released-over (Some w) is = refl

-- with an end it is over
over-released : (o : Option EndWhy) → is_some o ≡ true → released (end_next o) ≡ Over
over-released None is = absurd (cc)
over-released (Some why) is = refl

-- it has not read
released-read : (o : Option Want) → released o ≡ HasRead → ⊥
released-read None is = absurd (cc)
released-read (Some w) is = absurd (cc)

-- nor written
released-written : (o : Option Want) → released o ≡ HasWritten → ⊥
released-written None is = absurd (cc)
released-written (Some w) is = absurd (cc)

-- and has nothing to write
released-early : (o : Option Want) → before_write (released o) ≡ true → ⊥
released-early None is = absurd (cc)
released-early (Some w) is = absurd (cc)

-- an end that comes is one
end-some : (o : Option EndWhy) → is_some (end_next o) ≡ true → o ≡ None → ⊥
end-some o some none = absurd (cc (sym some ∙ ap (λ (e : Option EndWhy). is_some (end_next e)) none))

-- who has read and ends leaves
read-leaving : (p : Settings) (h : List Event) → IsHistory p h → IsLeaving p h → phase p h ≡ HasRead → is_owner h ≡ false
    → (is_granted h ≡ true) ⊎ (is_some (record_for p h) ≡ true) → (end_for p h ≡ None) ⊎ (is_leaving h ≡ true)
read-leaving p h is l at no_owner some =
    let early = ap before_write at in
    read-ends p (purpose h) (number h) (epoch_number h) (record_read h) (known_read h) (is_granted h) (is_owner h) (is_some (leaves h)) (has_abandoned h)
    (suited p h is early) no_owner some (l.leave early) (l.read at)

-- a RELEASE that ends an alternate is of one that leaves
release-leaving : (p : Settings) (h : List Event) → IsHistory p h → IsLeaving p h → may_release (phase p h) ≡ true → is_some (after_release p h) ≡ true
    → is_granted h ≡ true → is_owner h ≡ false → is_leaving h ≡ true
release-leaving p h is l may ends grants no_owner = by (phase p h) refl may
  where
    either : (end_for p h ≡ None) ⊎ (is_leaving h ≡ true) → is_leaving h ≡ true
    either (inl none) = absurd (end-some (end_for p h) ends none)
    either (inr leaving) = leaving

    by : (f : Phase) → phase p h ≡ f → may_release f ≡ true → is_leaving h ≡ true
    by HasRead at may = either (read-leaving p h is l at no_owner (inl grants))
    by HasWritten at may = either (l.written at no_owner)
    by _ at may = absurd (cc)

-- each event keeps it
leaving-step : (p : Settings) (h : List Event) (e : Event) → IsHistory p h → Comes p h e → IsLeaving p h → IsLeaving p (e ∷ h)
leaving-step p h StartedActive is comes l = absurd comes
leaving-step p h StartedStandby is comes l = absurd comes
leaving-step p h Reserved is comes l = record {
  leave = λ early. leave-now h;
  read = λ at. absurd (cc);
  written = λ at. absurd (cc);
  over = λ at. absurd (cc);
  ending = λ gone. absurd (not-reserve (phase p h) (end_for p h) (reserve-phase p h is comes) (l.ending gone));
}
leaving-step p h (ControlRead held known) is comes l =
    let at = read-phase p h is comes in
    record {
      leave = λ early. l.leave (ap before_write at);
      read = λ now none. or-left (abandons (purpose h) (number h) held) (has_abandoned h) none;
      written = λ now. absurd (cc);
      over = λ now. absurd (cc);
      ending = λ gone. by at (abandons (purpose h) (number h) held) refl gone;
    }
  where
    by : phase p h ≡ Held → (b : Bool) → abandons (purpose h) (number h) held ≡ b → (b || has_abandoned h) ≡ true
        → (HasRead ≡ Over) ⊎ ((may_release HasRead ≡ true) × (is_some (end_for p (ControlRead held known ∷ h)) ≡ true))
    by at true is_b gone = inr (refl, abandons-ends p (purpose h) (number h) held known is_b)
    by at false is_b gone = absurd (not-held (phase p h) (end_for p h) at (l.ending gone))
leaving-step p h (ControlWritten w) is comes l = record {
  leave = λ early. absurd (cc);
  read = λ at. absurd (cc);
  written = λ at no_owner. by (read-leaving p h is l wrote.0 (or-none (is_owner h) (names_owner w (number (ControlWritten w ∷ h))) no_owner)
      (inr (ap (λ (o : Option ControlRecord). is_some o) wrote.1)));
  over = λ at. absurd (cc);
  ending = λ gone. inr (refl, ap (λ (o : Option EndWhy). is_some o) same ∙ some-end (l.ending gone));
}
  where
    wrote : (phase p h ≡ HasRead) × (record_for p h ≡ Some w)
    wrote = write-phase p h w is comes

    same : end_for p (ControlWritten w ∷ h) ≡ end_for p h
    same =
        end-written p (purpose h) (number h) (record_read h) w (known_read h) (is_granted h) (is_owner h) (suited p h is (ap before_write wrote.0))

    by : (end_for p h ≡ None) ⊎ (is_leaving h ≡ true) → (end_for p (ControlWritten w ∷ h) ≡ None) ⊎ (is_leaving h ≡ true)
    by (inl none) = inl (same ∙ none)
    by (inr leaving) = inr leaving

    some-end : (phase p h ≡ Over) ⊎ ((may_release (phase p h) ≡ true) × (is_some (end_for p h) ≡ true)) → is_some (end_for p h) ≡ true
    some-end (inl over) = absurd (not-over (phase p h) (ap may_release wrote.0) over)
    some-end (inr ends) = ends.1
leaving-step p h Released is comes l = record {
  leave = λ early. absurd (released-early (after_release p h) early);
  read = λ at. absurd (released-read (after_release p h) at);
  written = λ at. absurd (released-written (after_release p h) at);
  over = λ at grants no_owner. release-leaving p h is l (releases-phase p h is comes) (released-over (after_release p h) at) grants no_owner;
  ending = λ gone. inl (by (l.ending gone));
}
  where
    by : (phase p h ≡ Over) ⊎ ((may_release (phase p h) ≡ true) × (is_some (end_for p h) ≡ true)) → released (after_release p h) ≡ Over
    by (inl over) = absurd (not-over (phase p h) (releases-phase p h is comes) over)
    by (inr ends) = over-released (end_for p h) ends.1
leaving-step p h (DecisionMade known n decision) is comes l =
    let at = work-phase p h is (ap is_work comes.0) in
    record {
      leave = λ early. absurd (cc (sym (ap before_write at) ∙ early));
      read = λ now. absurd (cc (sym at ∙ now));
      written = λ now. absurd (cc (sym at ∙ now));
      over = λ now. absurd (cc (sym at ∙ now));
      ending = λ gone. absurd (cc);
    }
leaving-step p h (ActFailed tried n) is comes l =
    let at = work-phase p h is (ap is_work comes.0 ∙ fails-work tried comes.1) in
    record {
      leave = λ early. absurd (cc (sym (ap before_write at) ∙ early));
      read = l.read;
      written = λ now. absurd (cc (sym at ∙ now));
      over = λ now. absurd (cc (sym at ∙ now));
      ending = l.ending;
    }
leaving-step p h _ is comes l = l

-- **of every history**
pub leaving-of : (p : Settings) (h : List Event) → IsHistory p h → IsLeaving p h
leaving-of p h is =
    induct IsLeaving
    (λ p. record { leave = λ early. absurd (cc); read = λ at. absurd (cc); written = λ at. absurd (cc); over = λ at. absurd (cc); ending = λ gone. absurd (cc) })
    (λ p. record { leave = λ early. absurd (cc); read = λ at. absurd (cc); written = λ at. absurd (cc); over = λ at. absurd (cc); ending = λ gone. absurd (cc) })
    leaving-step p h is
