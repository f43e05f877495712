pub mod EveryRun
