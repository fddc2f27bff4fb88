pub mod Asks
pub mod Kit
pub mod PlanBodies
pub mod TableHost
pub mod Values
