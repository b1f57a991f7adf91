pub mod OptPlans
pub mod Script
