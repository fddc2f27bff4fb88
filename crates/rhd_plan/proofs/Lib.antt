pub mod HeldNatives
pub mod BodyLaws
