-- A signal, and its one spelling in a sector of 64 bytes.
use Rattle.std.specs.Prelude.{◌≡◌, ℕ, ◌<◌, ◌≤◌, ◌^◌, List, ◌++◌, codes}
use Rattle.byteorder.specs.Endian.{big_bytes}
use Rattle.xrf_ctl.specs.Places.{zeros}

-- whose signal it is, how many it had given, and how many messages it had taken
pub record SignalRecord : Type 0 where
  pub inc : ℕ
  pub counter : ℕ
  pub cursor : ℕ

abbrev pub of_numbers : ℕ → ℕ → ℕ → SignalRecord
of_numbers inc counter cursor = record { inc = inc; counter = counter; cursor = cursor }

pub record IsSignal (s : SignalRecord) : Type 0 where
  pub inc_least : 1 ≤ s.inc
  pub inc : s.inc < 2 ^ 32
  pub counter : s.counter < 2 ^ 64
  pub cursor : s.cursor < 2 ^ 32

-- "XSIG", the three numbers, and zeros; the places are 0, 4, 8, 16 and 20
abbrev pub signal_bytes : SignalRecord → List ℕ
signal_bytes s = codes "XSIG" ++ big_bytes 4 s.inc ++ big_bytes 8 s.counter ++ big_bytes 4 s.cursor ++ zeros 44

-- the bytes are those of the signal
abbrev pub SpellsSignal : List ℕ → SignalRecord → Type 0
SpellsSignal bytes s = IsSignal s × (bytes ≡ signal_bytes s)
