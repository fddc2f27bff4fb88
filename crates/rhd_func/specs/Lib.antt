pub mod Natives
pub mod Access
pub mod Funcs
pub mod Shapes
pub mod GivenBack
pub mod Infos
pub mod Shown
