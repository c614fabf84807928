-- `Cases` has the computed cases, `Supply` what each small change leaves of an image.
pub mod Cases
pub mod Supply
