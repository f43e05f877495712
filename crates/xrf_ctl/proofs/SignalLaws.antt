-- The numbers of a signal's bytes are the signal's.
use Rattle.std.proofs.Common.{◌≡◌, ◌≢◌, ℕ, List, [], ◌++◌, length, take, drop, replicate, true, sym, ap, ◌∙◌, arith}
use Rattle.std.specs.Prelude.{codes}
use Rattle.std.proofs.Math.Seq.{take-add}
use Rattle.std.proofs.lemmas.List.{length-drop, take-append-drop}
use Rattle.xrf_base.specs.Numbers.{AreBytes}
use Rattle.xrf_base.specs.Zeros.{are_zeros}
use Rattle.xrf_base.proofs.NumberLaws.{number_part}
use Rattle.xrf_base.proofs.Tails.{is_replicate}
use Rattle.byteorder.specs.Numbers.{big_number-reads_back}
use Rattle.xrf_ctl.specs.Places.{number_at}
use Rattle.xrf_ctl.specs.Signal.{SignalRecord, IsSignal, signal_bytes, of_numbers, SpellsSignal}

-- the signal of the numbers at their places
abbrev pub signal_at : List ℕ → SignalRecord
signal_at b = of_numbers (number_at b 4 4) (number_at b 8 8) (number_at b 16 4)

inc_is : (s : SignalRecord) → IsSignal s → number_at (signal_bytes s) 4 4 ≡ s.inc
inc_is s fits = big_number-reads_back 4 s.inc [] fits.inc

counter_is : (s : SignalRecord) → IsSignal s → number_at (signal_bytes s) 8 8 ≡ s.counter
counter_is s fits = big_number-reads_back 8 s.counter [] fits.counter

cursor_is : (s : SignalRecord) → IsSignal s → number_at (signal_bytes s) 16 4 ≡ s.cursor
cursor_is s fits = big_number-reads_back 4 s.cursor [] fits.cursor

pub signal_read : (b : List ℕ) (s : SignalRecord) → SpellsSignal b s → signal_at b ≡ s
signal_read b s spells =
    ap signal_at spells.1
    ∙ ap (λ (n : ℕ). of_numbers n (number_at (signal_bytes s) 8 8) (number_at (signal_bytes s) 16 4)) (inc_is s spells.0)
    ∙ ap (λ (n : ℕ). of_numbers s.inc n (number_at (signal_bytes s) 16 4)) (counter_is s spells.0)
    ∙ ap (λ (n : ℕ). of_numbers s.inc s.counter n) (cursor_is s spells.0)

-- so where the bytes of the signal of these numbers are others, none is spelled
pub none_spelled : (b : List ℕ) (inc counter cursor : ℕ) → inc ≡ number_at b 4 4 → counter ≡ number_at b 8 8 → cursor ≡ number_at b 16 4
    → signal_bytes (of_numbers inc counter cursor) ≢ b → (s : SignalRecord) → ¬ SpellsSignal b s
none_spelled b inc counter cursor is_inc is_counter is_cursor others s spells =
    let is_at : of_numbers inc counter cursor ≡ signal_at b =
    ap (λ (n : ℕ). of_numbers n counter cursor) is_inc ∙ ap (λ (n : ℕ). of_numbers (number_at b 4 4) n cursor) is_counter ∙ ap (λ (n : ℕ). of_numbers (number_at b 4 4) (number_at b 8 8) n) is_cursor in
    others (ap signal_bytes (is_at ∙ signal_read b s spells) ∙ sym spells.1)

-- Bytes are those of the signal of their numbers where the eye stands before them and zero behind them, ..
pub around : (b : List ℕ) → length b ≡ 64 → AreBytes b → take 4 b ≡ codes "XSIG" → are_zeros (drop 20 b) ≡ true → b ≡ signal_bytes (signal_at b)
around b long fits eye rest =
    let count : length (drop 20 b) ≡ 44 = omega (arith, length-drop 20 b, long) in
    sym (take-append-drop 20 b)
    ∙ join _ _ _ _ (take-add 16 4 b ∙ join _ _ _ _ (take-add 8 8 b ∙ join _ _ _ _ (take-add 4 4 b ∙ join _ _ _ _ eye
    (number_part b 4 4 (omega arith) fits)) (number_part b 8 8 (omega arith) fits)) (number_part b 16 4 (omega arith) fits))
    (is_replicate 0 (drop 20 b) rest ∙ ap (λ (n : ℕ). replicate n 0) count)
  where
    join : (w x y z : List ℕ) → w ≡ x → y ≡ z → w ++ y ≡ x ++ z
    join w x y z e f = ap (λ (l : List ℕ). l ++ y) e ∙ ap (λ (l : List ℕ). x ++ l) f

-- .. and only there
pub eye_of : (b : List ℕ) (s : SignalRecord) → b ≡ signal_bytes s → take 4 b ≡ codes "XSIG"
eye_of b s is = ap (take 4) is

pub rest_of : (b : List ℕ) (s : SignalRecord) → b ≡ signal_bytes s → are_zeros (drop 20 b) ≡ true
rest_of b s is = ap (λ (l : List ℕ). are_zeros (drop 20 l)) is
