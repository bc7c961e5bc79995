pub mod PlanImage
