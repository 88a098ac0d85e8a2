pub mod CutLaws
pub mod StepLaws
