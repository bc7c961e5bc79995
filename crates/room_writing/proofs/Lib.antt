pub mod PlanTable
pub mod PlanImage
