pub mod ScenarioLaws
